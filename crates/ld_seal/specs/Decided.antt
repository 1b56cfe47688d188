-- The decisions on a message of a sequencer.
use Rattle.std.specs.Prelude.{ℕ, List, [], map, Bool, true, false, if◌then◌else◌}
use Rattle.ld_table.specs.Named.{same}
use Rattle.ld_table.specs.Words.{numbers_from}
use Rattle.ld_msg.specs.declared.msg.What.{What}
use Rattle.ld_msg.specs.declared.msg.What.TheVariants as whats
use Rattle.ld_msg.specs.declared.msg.Msg.{Msg}
use Rattle.ld_msg.specs.declared.msg.Body.{Body}
use Rattle.ld_msg.specs.declared.msg.Body.TheVariants as bodies
use Rattle.ld_msg.specs.Bounds.{ballot_of}
use Rattle.ld_op.specs.declared.pointed.Place.{Place}
use Rattle.ld_op.specs.Plain.{Plain, Log, log_of}
use Rattle.ld_op.specs.Answers as answers
use Rattle.ld_op.specs.Answers.{store_decision, digest_decision}
use Rattle.ld_seal.specs.declared.decision.Decision.{Decision}
use Rattle.ld_seal.specs.declared.decision.Decision.TheVariants as decisions
use Rattle.ld_seal.specs.declared.decision.Sameness.{Sameness}
use Rattle.ld_seal.specs.declared.decision.Sameness.TheVariants as sames

-- a loss is told with the generation
abbrev pub told : ℕ → answers.Decision → Decision
told generation (answers.Lost end) = decisions.Lost generation end
told generation (answers.CleanAlready y) = decisions.Clean y
told generation (answers.Trimmed t) = decisions.Trimmed t
told generation (answers.Sealed by) = decisions.Sealed by
told generation answers.Same = decisions.Same
told generation answers.Take = decisions.Take

abbrev pub IsStore : Body → Type 0
IsStore (bodies.Store number lng what) = Unit {0}
IsStore _ = ⊥

abbrev pub IsDigestAsk : Body → Type 0
IsDigestAsk (bodies.DigestAsk from) = Unit {0}
IsDigestAsk _ = ⊥

abbrev pub store_in : Log → ℕ → Body → answers.Decision
store_in g ballot (bodies.Store number lng what) = store_decision g (record { number = number; ballot = ballot; what = what })
store_in g ballot _ = answers.Same

abbrev pub digest_in : Log → ℕ → Body → answers.Decision
digest_in g ballot (bodies.DigestAsk from) = digest_decision g ballot from
digest_in g ballot _ = answers.Same

abbrev pub store_decided : Plain → Msg → Decision
store_decided p m = told p.generation (store_in (log_of p m.log) (ballot_of m.from) m.body)

abbrev pub digest_decided : Plain → Msg → Decision
digest_decided p m = told p.generation (digest_in (log_of p m.log) (ballot_of m.from) m.body)

-- ---- a store on an index, whose payloads are to be read ----

-- left to what stands at an offset
abbrev pub is_compare : Decision → Bool
is_compare (decisions.Lost generation end) = false
is_compare (decisions.Clean y) = false
is_compare (decisions.Trimmed t) = false
is_compare (decisions.Sealed by) = false
is_compare decisions.Same = false
is_compare decisions.Take = false
is_compare (decisions.Compare place) = true

-- the payload, where it is a record
abbrev pub payload_in : What → List ℕ
payload_in (whats.Rec p) = p
payload_in whats.Hole = []
payload_in whats.Bridge = []
payload_in whats.Plug = []
payload_in whats.Withheld = []

-- the payload of a store's record
abbrev pub payload_of : Body → List ℕ
payload_of (bodies.Store number lng what) = payload_in what
payload_of _ = []

-- whether this payload stands at the offset, where f is what represents each byte
abbrev pub stands_there : (ℕ → ℕ) → List ℕ → Place → Bool
stands_there f p place = same (map f (numbers_from place.at place.len)) p

-- whether what is sent is there, by what was found
abbrev pub found_same : (ℕ → ℕ) → List ℕ → Sameness → Bool
found_same f p sames.Same = true
found_same f p sames.Other = false
found_same f p (sames.Compare place) = stands_there f p place

-- the decision once what stands at its offset is read
abbrev pub compared : (ℕ → ℕ) → List ℕ → Decision → Decision
compared f p (decisions.Lost generation end) = decisions.Lost generation end
compared f p (decisions.Clean y) = decisions.Clean y
compared f p (decisions.Trimmed t) = decisions.Trimmed t
compared f p (decisions.Sealed by) = decisions.Sealed by
compared f p decisions.Same = decisions.Same
compared f p decisions.Take = decisions.Take
compared f p (decisions.Compare place) = if stands_there f p place then decisions.Same else decisions.Take
