-- The messages that answer an ask.
use Rattle.std.specs.Prelude.{ℕ, ◌≡◌, Bool, List, [], ◌∷◌, map, Option, Some}
use Rattle.ld_lsn.specs.Number.{epoch_of, numbered, last_esn}
use Rattle.ld_msg.specs.declared.msg.What.{What}
use Rattle.ld_msg.specs.declared.msg.What.TheVariants.{Rec}
use Rattle.ld_msg.specs.declared.msg.Entry.{Entry}
use Rattle.ld_msg.specs.declared.msg.Msg.{Msg}
use Rattle.ld_msg.specs.declared.msg.Summary.{Summary}
use Rattle.ld_msg.specs.declared.msg.Body.{Body}
use Rattle.ld_msg.specs.declared.msg.Body.TheVariants as bodies
use Rattle.ld_msg.specs.Choice.{sender}
use Rattle.ld_op.specs.Plain.{Plain, Log, log_of}
use Rattle.ld_op.specs.Picks.{carried}
use Rattle.ld_op.specs.Answers.{read_answer, one_answer, epoch_answer, entries_within, digest_page, is_node}

abbrev pub IsReadAsk : Body → Type 0
IsReadAsk (bodies.ReadAsk round from) = Unit {0}
IsReadAsk _ = ⊥

abbrev pub IsReadOne : Body → Type 0
IsReadOne (bodies.ReadOne round from set excluded) = Unit {0}
IsReadOne _ = ⊥

abbrev pub IsDigestAsk : Body → Type 0
IsDigestAsk (bodies.DigestAsk from) = Unit {0}
IsDigestAsk _ = ⊥

-- the answer goes back to whom it answers
abbrev pub back : Msg → Body → Msg
back m b = record { from = m.to; to = m.from; log = m.log; body = b }

abbrev pub read_in : ℕ → Log → ℕ → Body → Body
read_in generation g released (bodies.ReadAsk round from) = read_answer generation g released round from
read_in generation g released b = b

abbrev pub read_answered : Plain → ℕ → Msg → Msg
read_answered p released m = back m (read_in p.generation (log_of p m.log) released m.body)

-- node n answers
abbrev pub one_in : ℕ → ℕ → Log → ℕ → Body → Body
one_in n generation g released (bodies.ReadOne round from set excluded) = one_answer n generation g released round from set excluded
one_in n generation g released b = b

abbrev pub one_answered : ℕ → Plain → ℕ → Msg → Msg
one_answered n p released m = back m (one_in n p.generation (log_of p m.log) released m.body)

abbrev pub digest_in : Log → Body → Body
digest_in g (bodies.DigestAsk from) = digest_page g from (entries_within g from (numbered (epoch_of from) last_esn)) (numbered (epoch_of from) last_esn)
digest_in g b = b

abbrev pub digest_answered : Plain → Msg → Msg
digest_answered p m = back m (digest_in (log_of p m.log) m.body)

-- where the epoch is clean here
abbrev pub ended_answer : ℕ → Log → ℕ → ℕ → Summary → Body
ended_answer generation g round from y = epoch_answer generation g 0 round from (Some y)

abbrev pub lost_here : ℕ → ℕ → ℕ → ℕ → Body
lost_here generation round from end = bodies.LostHere from round generation end

-- ---- which payloads an answer carries ----

-- node n is the one that sends the payload of a number
abbrev pub is_sender : ℕ → List Bool → List Bool → ℕ → Bool
is_sender n set excluded number = is_node n (sender set excluded number)

-- the answer with the payloads of those records that are carried
abbrev pub carried_in : (ℕ → Bool) → Body → Body
carried_in carries (bodies.ReadPage round from upto clean es) = bodies.ReadPage round from upto clean (map (λ e. carried (carries e.number) e) es)
carried_in carries b = b

-- the entries of a page for a reader
abbrev pub entries_read : Body → List Entry
entries_read (bodies.ReadPage round from upto clean es) = es
entries_read b = []

-- a payload stands there only where node n is the one that sends it
abbrev pub IsSentBy : ℕ → Option ℕ → What → Type 0
IsSentBy n who (Rec p) = who ≡ Some n
IsSentBy n who _ = Unit {0}

abbrev pub AreSentBy : ℕ → List Bool → List Bool → List Entry → Type 0
AreSentBy n set excluded [] = Unit {0}
AreSentBy n set excluded (e ∷ es) = IsSentBy n (sender set excluded e.number) e.what × AreSentBy n set excluded es
