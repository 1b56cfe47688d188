-- What a node keeps and answers, whatever stands in the places that it has to read.
use Rattle.std.proofs.Common.{◌≡◌, ⊎_elim, ℕ, List, Option, Some, None, refl, sym, ap, subst, ◌∙◌, true, false, if◌then◌else◌}
use Rattle.ld_ids.specs.Id.{IsLog}
use Rattle.ld_msg.specs.declared.msg.Msg.{Msg}
use Rattle.ld_msg.specs.declared.msg.Who.{Who}
use Rattle.ld_msg.specs.declared.msg.Who.TheVariants as whos
use Rattle.ld_msg.specs.declared.msg.Body.{Body}
use Rattle.ld_msg.specs.declared.msg.Body.TheVariants as bodies
use Rattle.ld_msg.specs.Bounds.{Fits, ballot_of}
use Rattle.ld_op.specs.declared.op.Op.{Op}
use Rattle.ld_op.specs.Plain.{Plain, Log, log_of}
use Rattle.ld_op.specs.Answers.{silent}
use Rattle.ld_op.specs.Cells.{each_log, each_plain}
use Rattle.ld_op.proofs.Cells.{log_same}
use Rattle.ld_op.specs.Handles.{handled_by}
use Rattle.ld_node.specs.Changes.{IsChange, AreChanges}
use Rattle.ld_node.specs.Known.{Known}
use Rattle.ld_node.specs.Msgs.{number_in, is_for, released_in, handled}
use Rattle.ld_node.specs.declared.handled.Handled as declared
use Rattle.ld_node.specs.declared.handled.Reply.{Reply}
use Rattle.ld_node.specs.declared.handled.Reply.TheVariants as replies
use Rattle.ld_node.specs.Handling.{IsHandledWith, IsEither, accept_of, op_with, reply_with, reply_in}
use Rattle.ld_node.proofs.Changes.{some_change}
use Rattle.ld_node.proofs.Quiet.{changes_of}
use Rattle.ld_node.proofs.Told.{itself, log_is, body_is}

module _ (f : ℕ → ℕ) (m : Msg) (P : Option Op → Type 0) where
  pub either_of : (o op : Option Op) (a : Reply) → IsEither m o a op → P (op_with f m o a) → P None → P (accept_of m.log (ballot_of m.from) m.body) → P op
  either_of o op replies.Nothing is whole none accept = subst P (sym is) whole
  either_of o op (replies.Whole b) is whole none accept = subst P (sym is) whole
  either_of o op (replies.Page draft) is whole none accept = subst P (sym is) whole
  either_of o op (replies.Compare place) is whole none accept = ⊎_elim (λ e. subst P (sym e) none) (λ e. subst P (sym e) accept) is

-- ---- the op of a store ----

accept_change : (l id : ℕ) (from : Who) (b : Body) (p : Op) → IsLog l → Fits from (whos.Node id) b → accept_of l (ballot_of from) b ≡ Some p → IsChange p
accept_change l id from (bodies.Store s lng w) p log fits same = some_change _ p (record { op = (log, fits.1, fits.2, fits.3); kind = refl }) same
accept_change l id from _ p log fits same = absurd (cc same)

pub accept_changes : (l id : ℕ) (from : Who) (b : Body) → IsLog l → Fits from (whos.Node id) b → AreChanges (accept_of l (ballot_of from) b)
accept_changes l id from b log fits = changes_of (accept_of l (ballot_of from) b) (λ p same. accept_change l id from b p log fits same)

-- a message that releases is no store
pub accept_none : (l ballot : ℕ) (b : Body) (y : ℕ) → number_in b ≡ Some y → accept_of l ballot b ≡ None
accept_none l ballot (bodies.Store s lng w) y is = absurd cc
accept_none l ballot _ y is = refl

-- ---- the answer with the places of its payloads ----

reply_is : (m : Msg) (a : Reply) → reply_in m a ≡ reply_with itself m a
reply_is m replies.Nothing = refl
reply_is m (replies.Whole b) = refl
reply_is m (replies.Page draft) = ap Some (sym (body_is draft.body))
reply_is m (replies.Compare place) = refl

pub by_index : (m : Msg) (done : declared.Handled) (id gen l bal r : ℕ) (g : Log) → IsHandledWith itself m done (handled_by id gen (each_log itself g) l bal r m.body)
    → reply_in m done.answer ≡ (handled_by id gen g l bal r m.body).answer
by_index m done id gen l bal r g is = reply_is m done.answer ∙ (is.answer ∙ ap (λ h. (handled_by id gen h l bal r m.body).answer) (log_is g))

-- ---- for a node ----

module _ (f : ℕ → ℕ) (m : Msg) (done : declared.Handled) (id : ℕ) (known : Known) (released : List (ℕ × ℕ)) (p : Plain) where
  pub decided : (r : ℕ) → is_for id known m ≡ true → r ≡ released_in released m.log → IsHandledWith f m done (handled_by id p.generation (each_log f (log_of p m.log)) m.log (ballot_of m.from) r m.body)
      → IsHandledWith f m done (handled id known released (each_plain f p) m)
  unfolding handled
  decided r here number is = subst (λ h. IsHandledWith f m done h)
      (λ i. if sym here i then handled_by id p.generation (sym (log_same f p m.log) i) m.log (ballot_of m.from) (number i) m.body else silent) is

  pub decided_nowhere : is_for id known m ≡ false → done.op ≡ None → done.answer ≡ replies.Nothing → IsHandledWith f m done (handled id known released (each_plain f p) m)
  unfolding handled
  decided_nowhere nowhere none nothing = subst (λ h. IsHandledWith f m done h)
      (λ i. if sym nowhere i then handled_by id p.generation (log_of (each_plain f p) m.log) m.log (ballot_of m.from) (released_in released m.log) m.body else silent)
      (record { op = (λ i. op_with f m (none i) (nothing i)); answer = ap (reply_with f m) nothing })
