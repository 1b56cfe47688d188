-- What a node's answer does to an epoch's own sequencer.
use Rattle.std.proofs.Common.{◌≡◌, ℕ, Bool, true, false, not, ◌&&◌, ◌==◌, List, [], ◌∷◌, ◌++◌, Option, Some, None, refl, ap, sym, ◌∙◌, subst, if◌then◌else◌, nat_lt, append-nil, ◌+◌, ◌<◌, ◌≤◌, arith}
use Rattle.std.proofs.lemmas.Bool.Decides.{nat_tests}
use Rattle.ld_table.specs.Table.{find}
use Rattle.ld_table.specs.Words.{is_in, with_one}
use Rattle.ld_lsn.specs.Number.{epoch_of, home_epoch, epoch_end, numbered}
use Rattle.ld_ids.specs.Choice.{nodes_of}
use Rattle.ld_msg.specs.declared.msg.Body.{Body}
use Rattle.ld_msg.specs.declared.msg.Body.TheVariants as bodies
use Rattle.ld_msg.specs.declared.msg.Who.{Who}
use Rattle.ld_msg.specs.declared.msg.Who.TheVariants as whos
use Rattle.ld_msg.specs.declared.msg.Summary.{Summary}
use Rattle.ld_msg.specs.Sequencer.{Append, Acts, is_acked, stored_at, does_nothing, preempt, on_reply, by_reply, by_stored, by_lost, by_clean, acks_append, acted_messages, released_of, release_messages, to_each, unless_preempted, on_retry, retries_appends, append_stores, raised}
use Rattle.ld_msg.specs.declared.msg.Body.TheVariants.{Release}
use Rattle.ld_msg.specs.declared.msg.Msg.{Msg}
use Rattle.ld_msg.specs.Network.{posted}
use Rattle.ld_sequencer.specs.Appends.{stores, acks, raises}
use Rattle.ld_sequencer.specs.declared.own.Learnt.{Learnt}
use Rattle.ld_sequencer.specs.Looks.{shows}
use Rattle.ld_sequencer.specs.Own.{Own, IsNow, Does, listed, spec_of, sequencer_of, answered, heard, released_above, preempted_as, sent_by}

abbrev nothing : Own → Acts
nothing o = does_nothing (sequencer_of o)

pub stays : (o : Own) (r : Learnt) → r.acked ≡ None → r.preempted ≡ None → Does o o r (nothing o)
stays o r a p = record { now = record { origin = refl; spec = refl; sequencer = refl }; acked = ap listed a; preempted = ap listed p }

-- ---- an append is stored ----

one_acked : (n : ℕ) (was is : Bool) → listed (if not was && is then Some n else None) ≡ (if was then [] else if is then n ∷ [] else [])
one_acked n true is = refl
one_acked n false true = refl
one_acked n false false = refl

pub counted : (o : Own) (y n : ℕ) (w : Option Append) (r : Learnt) → r.acked ≡ (if acks (spec_of o) y w then Some n else None) → r.preempted ≡ None → Does o (record o { row = stores o.row y n w }) r (acks_append (nothing o) y n w)
counted o y n None r a p = stays o r a p
counted o y n (Some w) r a p = record {
  now = record { origin = refl; spec = refl; sequencer = refl };
  acked = ap listed a ∙ one_acked n (is_acked (spec_of o) w) (is_acked (spec_of o) (stored_at w y));
  preempted = ap listed p;
}

-- one that isn't of the epoch's set counts for nothing
abbrev counts : Own → ℕ → ℕ → Acts
counts o y n = by_stored (nothing o) y n

pub stranger_stored : (o : Own) (y n : ℕ) (r : Learnt) → (epoch_of n == o.row.epoch) ≡ true → is_in y (nodes_of (spec_of o)) ≡ false → r.acked ≡ None → r.preempted ≡ None → Does o o r (counts o y n)
stranger_stored o y n r e m a p = rw e (rw m (stays o r a p))

pub own_stored : (o : Own) (y n : ℕ) (r : Learnt) → (epoch_of n == o.row.epoch) ≡ true → is_in y (nodes_of (spec_of o)) ≡ true → r.acked ≡ (if acks (spec_of o) y (find n o.row.appends) then Some n else None) → r.preempted ≡ None
    → Does o (record o { row = stores o.row y n (find n o.row.appends) }) r (counts o y n)
own_stored o y n r e m a p = rw e (rw m (counted o y n (find n o.row.appends) r a p))

pub other_stored : (o : Own) (y n : ℕ) (r : Learnt) → (epoch_of n == o.row.epoch) ≡ false → r.acked ≡ None → r.preempted ≡ None → Does o o r (counts o y n)
other_stored o y n r e a p = rw e (stays o r a p)

pub ruleset count_rules = (stranger_stored, own_stored, other_stored)

-- ---- preempted, or a node is lost ----

abbrev sealed : Own → ℕ → Acts
sealed o k = if nat_lt o.row.epoch k then preempt (nothing o) k else nothing o

pub preempts : (o : Own) (k : ℕ) (r : Learnt) → r.acked ≡ None → r.preempted ≡ Some k → Does o (preempted_as o k) r (preempt (nothing o) k)
preempts o k r a p = record { now = record { origin = refl; spec = refl; sequencer = refl }; acked = ap listed a; preempted = ap listed p }

pub is_sealed : (o : Own) (k : ℕ) (r : Learnt) → nat_lt o.row.epoch k ≡ true → r.acked ≡ None → r.preempted ≡ Some k → Does o (preempted_as o k) r (sealed o k)
is_sealed o k r e a p = rw e (preempts o k r a p)

pub isnt_sealed : (o : Own) (k : ℕ) (r : Learnt) → nat_lt o.row.epoch k ≡ false → r.acked ≡ None → r.preempted ≡ None → Does o o r (sealed o k)
isnt_sealed o k r e a p = rw e (stays o r a p)

pub ruleset seal_rules = (is_sealed, isnt_sealed)

pub is_lost : (o : Own) (y n : ℕ) (r : Learnt) → (home_epoch n == o.row.epoch) ≡ true → r.acked ≡ None → r.preempted ≡ None → Does o (record o { lost = with_one y o.lost }) r (by_lost (shows (spec_of o)) (nothing o) y n)
is_lost o y n r e a p = rw e (record { now = record { origin = refl; spec = refl; sequencer = refl }; acked = ap listed a; preempted = ap listed p })

pub isnt_lost : (o : Own) (y n : ℕ) (r : Learnt) → (home_epoch n == o.row.epoch) ≡ false → r.acked ≡ None → r.preempted ≡ None → Does o o r (by_lost (shows (spec_of o)) (nothing o) y n)
isnt_lost o y n r e a p = rw e (stays o r a p)

pub ruleset lose_rules = (is_lost, isnt_lost)

pub is_clean : (o : Own) (n : ℕ) (y : Summary) (r : Learnt) → (home_epoch n == o.row.epoch) ≡ true → r.acked ≡ None → r.preempted ≡ Some y.ballot → Does o (preempted_as o y.ballot) r (by_clean (shows (spec_of o)) (nothing o) n y)
is_clean o n y r e a p = rw e (preempts o y.ballot r a p)

pub isnt_clean : (o : Own) (n : ℕ) (y : Summary) (r : Learnt) → (home_epoch n == o.row.epoch) ≡ false → r.acked ≡ None → r.preempted ≡ None → Does o o r (by_clean (shows (spec_of o)) (nothing o) n y)
isnt_clean o n y r e a p = rw e (stays o r a p)

pub ruleset clean_rules = (is_clean, isnt_clean)

-- ---- any answer ----

pub ignores : (o : Own) (y : ℕ) (b : Body) (k : ℕ) → o.preempted ≡ Some k → answered o y b ≡ nothing o
unfolding on_reply
ignores o y b k e = ap (λ p. unless_preempted p (by_reply (shows (spec_of o)) (nothing o) y b) (nothing o)) e

pub replies : (o : Own) (y : ℕ) (b : Body) → o.preempted ≡ None → answered o y b ≡ by_reply (shows (spec_of o)) (nothing o) y b
unfolding on_reply
replies o y b e = ap (λ p. unless_preempted p (by_reply (shows (spec_of o)) (nothing o) y b) (nothing o)) e

pub ruleset reply_rules = (stays, ignores, replies)

-- nothing but the own epoch's releases is sent
pub record IsQuiet (o : Own) (a : Acts) : Type 0 where
  pub epoch : a.sequencer.epoch ≡ o.row.epoch
  pub tries : a.tries ≡ []
  pub closed : a.closed ≡ []
  pub failed : a.failed ≡ false
  pub cleans : a.cleans ≡ []
  pub asks : a.asks ≡ []
  pub stores : a.stores ≡ []

quiet_nothing : (o : Own) → IsQuiet o (nothing o)
quiet_nothing o = record { epoch = refl; tries = refl; closed = refl; failed = refl; cleans = refl; asks = refl; stores = refl }

quiet_preempt : (o : Own) (k : ℕ) → IsQuiet o (preempt (nothing o) k)
quiet_preempt o k = record { epoch = refl; tries = refl; closed = refl; failed = refl; cleans = refl; asks = refl; stores = refl }

quiet_acks : (o : Own) (y n : ℕ) (w : Option Append) → IsQuiet o (acks_append (nothing o) y n w)
quiet_acks o y n None = quiet_nothing o
quiet_acks o y n (Some w) = record { epoch = refl; tries = refl; closed = refl; failed = refl; cleans = refl; asks = refl; stores = refl }

quiet_lost : (o : Own) (y : ℕ) → IsQuiet o (record (nothing o) { sequencer = record (sequencer_of o) { lost = with_one y o.lost } })
quiet_lost o y = record { epoch = refl; tries = refl; closed = refl; failed = refl; cleans = refl; asks = refl; stores = refl }

quiet_if : (o : Own) (b : Bool) (a d : Acts) → IsQuiet o a → IsQuiet o d → IsQuiet o (if b then a else d)
quiet_if o true a d p q = p
quiet_if o false a d p q = q

quiet_by : (o : Own) (y : ℕ) (b : Body) → IsQuiet o (by_reply (shows (spec_of o)) (nothing o) y b)
quiet_by o y (bodies.Stored n) = quiet_if o (epoch_of n == o.row.epoch) _ (nothing o) (quiet_if o (is_in y (nodes_of (spec_of o))) (acks_append (nothing o) y n (find n o.row.appends)) (nothing o) (quiet_acks o y n (find n o.row.appends)) (quiet_nothing o)) (quiet_nothing o)
quiet_by o y (bodies.SealedHere n k) = quiet_if o (nat_lt o.row.epoch k) (preempt (nothing o) k) (nothing o) (quiet_preempt o k) (quiet_nothing o)
quiet_by o y (bodies.LostHere n round generation end) = quiet_if o (home_epoch n == o.row.epoch) (record (nothing o) { sequencer = record (sequencer_of o) { lost = with_one y o.lost } }) (nothing o) (quiet_lost o y) (quiet_nothing o)
quiet_by o y (bodies.CleanHere n s) = quiet_if o (home_epoch n == o.row.epoch) (preempt (nothing o) s.ballot) (nothing o) (quiet_preempt o s.ballot) (quiet_nothing o)
quiet_by o y _ = quiet_nothing o

pub quiet_reply : (o : Own) (y : ℕ) (b : Body) → IsQuiet o (answered o y b)
unfolding on_reply
quiet_reply o y b = elim o.preempted as (λ p. IsQuiet o (unless_preempted p (by_reply (shows (spec_of o)) (nothing o) y b) (nothing o))) [ None ↦ quiet_by o y b | Some k ↦ quiet_nothing o ]

pub quiet_heard : (o : Own) (w : Who) (b : Body) → IsQuiet o (heard o w b)
quiet_heard o (whos.Node y) b = quiet_reply o y b
quiet_heard o (whos.Sequencer k) b = quiet_nothing o
quiet_heard o (whos.Reader k) b = quiet_nothing o

-- the messages of a reply are those of a rise
heard_messages : (o now : Own) (a : Acts) → IsQuiet o a → IsNow o now a.sequencer → acted_messages (sequencer_of o) a ≡ released_above (released_of (sequencer_of o)) now
heard_messages o now a q n =
    let m : List (ℕ × Body) = release_messages (sequencer_of o) a.sequencer in
    ap (λ c. c ++ (m ++ (a.asks ++ a.stores))) q.cleans
    ∙ (ap (λ c. m ++ (c ++ a.stores)) q.asks
    ∙ (ap (λ c. m ++ c) q.stores
    ∙ (append-nil m
    ∙ ap (release_messages (sequencer_of o)) (sym n.sequencer))))

abbrev released_sent : Own → Own → List Msg
released_sent o now = sent_by now (released_above (released_of (sequencer_of o)) now)

acts_sent : (o now : Own) (a : Acts) → IsQuiet o a → IsNow o now a.sequencer → released_sent o now ≡ sent_by o (acted_messages (sequencer_of o) a)
acts_sent o now a q n =
    let epoch : now.row.epoch ≡ o.row.epoch = ap (λ s. s.epoch) n.sequencer ∙ q.epoch in
    ap (λ e. posted (whos.Sequencer e) now.row.spec.log (released_above (released_of (sequencer_of o)) now)) epoch
    ∙ (ap (λ s. posted (whos.Sequencer o.row.epoch) s.log (released_above (released_of (sequencer_of o)) now)) n.spec
    ∙ ap (sent_by o) (sym (heard_messages o now a q n)))

pub heard_sent : (o now : Own) (y : ℕ) (w : Who) (b : Body) (r : Learnt) (old out : List Msg) → w ≡ whos.Node y → Does o now r (answered o y b) → out ≡ old ++ released_sent o now
    → out ≡ old ++ sent_by o (acted_messages (sequencer_of o) (heard o w b))
heard_sent o now y w b r old out e d s =
    s ∙ ap (λ m. old ++ m) (acts_sent o now (answered o y b) (quiet_reply o y b) d.now ∙ ap (λ w. sent_by o (acted_messages (sequencer_of o) (heard o w b))) (sym e))

pub heard_does : (o now : Own) (y : ℕ) (w : Who) (b : Body) (r : Learnt) → w ≡ whos.Node y → Does o now r (answered o y b) → Does o now r (heard o w b)
heard_does o now y w b r e d = subst (λ w. Does o now r (heard o w b)) (sym e) d

pub ruleset heard_rules = (heard_does, heard_sent, stays)

-- ---- the released number ----

pub released_before : (o : Own) → o.lce + 1 < o.row.epoch → released_of (sequencer_of o) ≡ epoch_end o.lce
released_before o h = let e : nat_lt (o.lce + 1) o.row.epoch ≡ true = grind (arith, nat_tests) in rw e refl

pub released_after : (o : Own) → o.row.epoch ≤ o.lce + 1 → released_of (sequencer_of o) ≡ numbered o.row.epoch o.row.lng
released_after o h = let e : nat_lt (o.lce + 1) o.row.epoch ≡ false = grind (arith, nat_tests) in rw e refl

pub ruleset released_rules = (released_before, released_after)

-- ---- a retry ----

irreflexive : (n : ℕ) → nat_lt n n ≡ false
irreflexive n = grind (arith, nat_tests)

no_rise : (o : Own) (ms : List (ℕ × Body)) → (if nat_lt (released_of (sequencer_of o)) (released_of (sequencer_of o)) then ms else []) ≡ []
no_rise o ms = ap (λ b. if b then ms else []) (irreflexive (released_of (sequencer_of o)))

retries : (o : Own) → o.preempted ≡ None → on_retry (shows (spec_of o)) (sequencer_of o) ≡ retries_appends (nothing o)
unfolding on_retry
retries o e = ap (λ p. unless_preempted p (retries_appends (nothing o)) (nothing o)) e

keeps_still : (o : Own) (k : ℕ) → o.preempted ≡ Some k → on_retry (shows (spec_of o)) (sequencer_of o) ≡ nothing o
unfolding on_retry
keeps_still o k e = ap (λ p. unless_preempted p (retries_appends (nothing o)) (nothing o)) e

pub retry_now : (o : Own) → o.preempted ≡ None → IsNow o (record o { row = raises o.row }) (on_retry (shows (spec_of o)) (sequencer_of o)).sequencer
retry_now o e = record { origin = refl; spec = refl; sequencer = ap (λ a. a.sequencer) (sym (retries o e)) }

pub still_now : (o : Own) (k : ℕ) → o.preempted ≡ Some k → IsNow o o (on_retry (shows (spec_of o)) (sequencer_of o)).sequencer
still_now o k e = record { origin = refl; spec = refl; sequencer = ap (λ a. a.sequencer) (sym (keeps_still o k e)) }

abbrev retried_messages : Own → List (ℕ × Body)
retried_messages o = append_stores (spec_of o) o.lost o.row.lng (raised (spec_of o) o.row.appends)

pub retry_sent : (o : Own) (old out : List Msg) → o.preempted ≡ None → out ≡ old ++ sent_by o (retried_messages o) → out ≡ old ++ sent_by o (acted_messages (sequencer_of o) (on_retry (shows (spec_of o)) (sequencer_of o)))
retry_sent o old out e s =
    s ∙ ap (λ m. old ++ sent_by o m) (sym (ap (λ m. m ++ retried_messages o) (no_rise o (to_each (Release (released_of (sequencer_of o))) (nodes_of (spec_of o)))))
    ∙ ap (acted_messages (sequencer_of o)) (sym (retries o e)))

pub still_sent : (o : Own) (old : List Msg) (k : ℕ) → o.preempted ≡ Some k → old ≡ old ++ sent_by o (acted_messages (sequencer_of o) (on_retry (shows (spec_of o)) (sequencer_of o)))
still_sent o old k e =
    sym (append-nil old) ∙ ap (λ m. old ++ sent_by o m) (sym (ap (λ m. m ++ []) (no_rise o (to_each (Release (released_of (sequencer_of o))) (nodes_of (spec_of o)))))
    ∙ ap (acted_messages (sequencer_of o)) (sym (keeps_still o k e)))

pub ruleset retry_rules = (retry_now, still_now, retry_sent, still_sent)
