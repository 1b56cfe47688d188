-- What a node makes of a message.
use Rattle.std.specs.Prelude.{ℕ, List, [], ◌∷◌, Option, Some, None}
use Rattle.ld_msg.specs.declared.msg.Who.TheVariants as whos
use Rattle.ld_msg.specs.declared.msg.Msg.{Msg}
use Rattle.ld_msg.specs.declared.msg.Body.{Body}
use Rattle.ld_msg.specs.declared.msg.Body.TheVariants as bodies
pub use Rattle.ld_msg.specs.Bounds.{ballot_of}
use Rattle.ld_op.specs.Plain.{Log}
use Rattle.ld_op.specs.Answers.{Handled, answers, on_store, on_digest_ask, on_clean, on_trim, read_answer, one_answer}
use Rattle.ld_op.specs.Ticks.{on_page}

-- the node, its generation, the log's state, the log, the sender's ballot, the log's released number and the message
abbrev pub handled_by : ℕ → ℕ → Log → ℕ → ℕ → ℕ → Body → Handled
handled_by n generation g l ballot released (bodies.Store number lng what) = on_store generation g l lng (record { number = number; ballot = ballot; what = what })
handled_by n generation g l ballot released (bodies.DigestAsk from) = on_digest_ask generation g l ballot from
handled_by n generation g l ballot released (bodies.Clean epoch y) = on_clean g l epoch y
handled_by n generation g l ballot released (bodies.Trim t) = on_trim g l t
handled_by n generation g l ballot released (bodies.ReadAsk round from) = answers (read_answer generation g released round from)
handled_by n generation g l ballot released (bodies.ReadOne round from set excluded) = answers (one_answer n generation g released round from set excluded)
handled_by n generation g l ballot released b = on_page g l b

-- a node's answer goes to whom it answers
abbrev pub answer_message : ℕ → Msg → Option Body → List Msg
answer_message n m None = []
answer_message n m (Some b) = record { from = whos.Node n; to = m.from; log = m.log; body = b } ∷ []
