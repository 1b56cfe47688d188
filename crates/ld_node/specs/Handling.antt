-- What a node makes of a message, by the decision on it, and once the payloads that it names are read.
use Rattle.std.specs.Prelude.{ℕ, ◌≡◌, ◌⊎◌, List, map, Bool, Option, Some, None, if◌then◌else◌}
use Rattle.ld_table.specs.Words.{numbers_from}
use Rattle.ld_msg.specs.declared.msg.Msg.{Msg}
use Rattle.ld_msg.specs.declared.msg.Body.{Body}
use Rattle.ld_msg.specs.declared.msg.Body.TheVariants as bodies
use Rattle.ld_msg.specs.Bounds.{ballot_of}
use Rattle.ld_op.specs.declared.op.Op.{Op}
use Rattle.ld_op.specs.declared.pointed.Place.{Place}
use Rattle.ld_op.specs.declared.op.Op.TheVariants as ops
use Rattle.ld_op.specs.Answers.{Handled}
use Rattle.ld_op.specs.Cells.{each_body}
use Rattle.ld_seal.specs.declared.decision.Decision.{Decision}
use Rattle.ld_seal.specs.declared.decision.Decision.TheVariants as decisions
use Rattle.ld_seal.specs.Decided.{payload_of, stands_there}
use Rattle.ld_node.specs.declared.handled.Handled as declared
use Rattle.ld_node.specs.declared.handled.Reply.{Reply}
use Rattle.ld_node.specs.declared.handled.Reply.TheVariants as replies

-- ---- by the decision ----

-- the op is kept where it is taken
abbrev pub op_if : Option Op → Decision → Option Op
op_if o decisions.Take = o
op_if o _ = None

-- the op of a store
abbrev pub accept_of : ℕ → ℕ → Body → Option Op
accept_of l ballot (bodies.Store number lng what) = Some (ops.Accept l lng (record { number = number; ballot = ballot; what = what }))
accept_of l ballot _ = None

abbrev pub seal_of : ℕ → ℕ → Option Op
seal_of l ballot = Some (ops.Seal l ballot)

-- the number of a store
abbrev pub number_of : Body → ℕ
number_of (bodies.Store number lng what) = number
number_of _ = 0

-- the answer to a store
abbrev pub store_reply : ℕ → Decision → Reply
store_reply s (decisions.Lost generation end) = replies.Whole (bodies.LostHere s 0 generation end)
store_reply s (decisions.Clean y) = replies.Whole (bodies.CleanHere s y)
store_reply s (decisions.Trimmed t) = replies.Whole (bodies.TrimmedHere s t)
store_reply s (decisions.Sealed by) = replies.Whole (bodies.SealedHere s by)
store_reply s decisions.Same = replies.Whole (bodies.Stored s)
store_reply s decisions.Take = replies.Whole (bodies.Stored s)
store_reply s (decisions.Compare place) = replies.Compare place

-- the answer to an ask for a digest, a page where it isn't refused
abbrev pub digest_reply : ℕ → Msg → Decision → Reply
digest_reply s page (decisions.Lost generation end) = replies.Whole (bodies.LostHere s 0 generation end)
digest_reply s page (decisions.Clean y) = replies.Whole (bodies.CleanHere s y)
digest_reply s page (decisions.Trimmed t) = replies.Whole (bodies.TrimmedHere s t)
digest_reply s page (decisions.Sealed by) = replies.Whole (bodies.SealedHere s by)
digest_reply s page decisions.Same = replies.Page page
digest_reply s page decisions.Take = replies.Page page
digest_reply s page (decisions.Compare place) = replies.Page page

abbrev pub asked_from : Body → ℕ
asked_from (bodies.DigestAsk n) = n
asked_from _ = 0

-- ---- once payloads are read ----

-- the answer with the places of its payloads
abbrev pub reply_in : Msg → Reply → Option Body
reply_in m replies.Nothing = None
reply_in m (replies.Whole b) = Some b
reply_in m (replies.Page draft) = Some draft.body
reply_in m (replies.Compare place) = Some (bodies.Stored (number_of m.body))

-- the op that is kept, whatever stands in the places
abbrev pub IsEither : Msg → Option Op → Reply → Option Op → Type 0
IsEither m o replies.Nothing op = op ≡ o
IsEither m o (replies.Whole b) op = op ≡ o
IsEither m o (replies.Page draft) op = op ≡ o
IsEither m o (replies.Compare place) op = (op ≡ None) ⊎ (op ≡ accept_of m.log (ballot_of m.from) m.body)

-- some bytes stand in the place, and tell so
pub record StandsForSome (payload : List ℕ) (place : Place) (there : Bool) : Type 0 where
  pub byte : ℕ → ℕ
  pub is : there ≡ stands_there byte payload place

module _ (f : ℕ → ℕ) where
  -- the answer, where f is what represents each byte
  abbrev pub reply_with : Msg → Reply → Option Body
  reply_with m replies.Nothing = None
  reply_with m (replies.Whole b) = Some b
  reply_with m (replies.Page draft) = Some (each_body f draft.body)
  reply_with m (replies.Compare place) = Some (bodies.Stored (number_of m.body))

  -- the op that is kept
  abbrev pub op_with : Msg → Option Op → Reply → Option Op
  op_with m o replies.Nothing = o
  op_with m o (replies.Whole b) = o
  op_with m o (replies.Page draft) = o
  op_with m o (replies.Compare place) = if stands_there f (payload_of m.body) place then None else accept_of m.log (ballot_of m.from) m.body

  -- what is made of a message is that
  pub record IsHandledWith (m : Msg) (done : declared.Handled) (handled : Handled) : Type 0 where
    pub op : op_with m done.op done.answer ≡ handled.op
    pub answer : reply_with m done.answer ≡ handled.answer

  -- each offset that is read stays where f is put at it
  abbrev pub Stays : Reply → Type 0
  Stays replies.Nothing = Unit {0}
  Stays (replies.Whole b) = Unit {0}
  Stays (replies.Page draft) = each_body f draft.body ≡ draft.body
  Stays (replies.Compare place) = map f (numbers_from place.at place.len) ≡ numbers_from place.at place.len

-- the op that is kept, for some bytes in the places
pub record IsForSome (m : Msg) (o : Option Op) (answer : Reply) (kept : Option Op) : Type 0 where
  pub byte : ℕ → ℕ
  pub is : kept ≡ op_with byte m o answer
