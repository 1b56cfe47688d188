use Rattle.std.proofs.Common.{◌≡◌, ◌+◌, ◌++◌, List, ℕ, take, drop, sym, ap, ◌∙◌}
use Rattle.std.proofs.lemmas.List.{drop-drop}
use Rattle.std.proofs.Math.Seq.{take-add}
use Rattle.ld_link.specs.Peers.{Talk, heard}
use Rattle.ld_link.proofs.talk.MemTalk.read.Goals as goal

abbrev talk : List ℕ → List ℕ → List ℕ → Talk
talk got left sent = record { got = got; left = left; sent = sent }

heard_at : (bytes sent : List ℕ) (at n : ℕ) → talk (take (at + n) bytes) (drop (at + n) bytes) sent ≡ heard n (talk (take at bytes) (drop at bytes) sent)
heard_at bytes sent at n = ap (λ got. talk got (drop (at + n) bytes) sent) (take-add at n bytes)
    ∙ ap (λ left. talk (take at bytes ++ take n (drop at bytes)) left sent) (sym (drop-drop n at bytes))

pub returns-clause-talk : goal.returns-clause-talk
returns-clause-talk c = heard_at c.self.inside.bytes.items c.self.inside.out.bytes c.self.inside.at c.min-count.result ∙ ap (λ line. heard c.min-count.result line.talk) c.self.view_is
