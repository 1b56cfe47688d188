-- What the node that an ask is for answers.
use Rattle.std.proofs.Common.{◌≡◌, ◌⊎◌, ℕ, List, [], ◌∷◌, ◌++◌, Option, None, Some, Bool, true, false, ◌&&◌, ◌==◌, refl, sym, ap, ◌∙◌, subst, inl, inr, if◌then◌else◌, true≢false}
use Rattle.std.proofs.lemmas.Bool.{eq-eqb}
use Rattle.std.specs.declared.result.Result.{Result}
use Rattle.std.specs.declared.result.Result.TheVariants.{Ok, Err}
use Rattle.ld_config.specs.declared.config.Config.{Config}
use Rattle.ld_msg.specs.declared.msg.Who.TheVariants as whos
use Rattle.ld_msg.specs.declared.msg.Msg.{Msg}
use Rattle.ld_msg.specs.declared.msg.Body.{Body}
use Rattle.ld_op.specs.declared.op.Op.{Op}
use Rattle.ld_op.specs.Handles.{answer_message}
use Rattle.ld_machine.specs.Config.{has_log}
use Rattle.ld_machine.specs.Disk.{Node, is_up, keep_end}
use Rattle.ld_machine.specs.State.{State, Done, node_at, unchanged}
use Rattle.ld_machine.specs.Step as machine
use Rattle.ld_machine.specs.Step.{is_written}
use Rattle.ld_dial.specs.Far.{Far, alone, handed, is_up_in, IsHanded}
use Rattle.ld_mend.specs.Course.{is_node, answers_to, node_of, Hands, handed_far, ToldAs, IsForeign, TakesOwn, Fetched, IsHushed}
use Rattle.ld_mend.specs.declared.stop.Stop.{Stop}

-- at most one message, that answers
abbrev AreOwn : ℕ → ℕ → ℕ → List Msg → Type 0
AreOwn y id l [] = Unit {0}
AreOwn y id l (m ∷ []) = answers_to y id l m ≡ true
AreOwn y id l (m ∷ n ∷ ms) = ⊥

module _ (id : ℕ) (ask : Msg) (from : ask.from ≡ whos.Node id) where
  answer_own : (y : ℕ) (b : Option Body) → AreOwn y id ask.log (answer_message y ask b)
  answer_own y None = tt
  answer_own y (Some b) =
      ap (λ v. v && (is_node id ask.from && (ask.log == ask.log))) (eq-eqb y y refl) ∙ (ap (λ w. is_node id w && (ask.log == ask.log)) from ∙ (ap (λ v. v && (ask.log == ask.log)) (eq-eqb id id refl) ∙ eq-eqb ask.log ask.log refl))

  when_own : (y : ℕ) (b : Bool) (ms : List Msg) → AreOwn y id ask.log ms → AreOwn y id ask.log (if b then ms else [])
  when_own y true ms a = a
  when_own y false ms a = tt

  handles_own : (s : State) (y : ℕ) (o : Option Op) (b : Option Body) → AreOwn y id ask.log (machine.handles s y ask o b).sends
  handles_own s y None b = answer_own y b
  handles_own s y (Some o) b = when_own y (is_written (keep_end (node_at s y) o)) (answer_message y ask b) (answer_own y b)

  own_by : (y : ℕ) (b : Bool) (s : State) (d : Done) → AreOwn y id ask.log d.sends → AreOwn y id ask.log (if b then d else unchanged s).sends
  own_by y true s d h = h
  own_by y false s d h = tt

  handed_own : (c : Config) (ns : List (ℕ × Node)) (y : ℕ) → AreOwn y id ask.log (handed c ns y ask).sends
  handed_own c ns y =
      own_by y (is_up (node_at (alone ns) y).status && has_log c ask.log) (alone ns) _
      (handles_own _ y (machine.node_handles y (node_at (alone ns) y) ask).op (machine.node_handles y (node_at (alone ns) y) ask).answer)

one_own : (y id l : ℕ) (m : Msg) (rest : List Msg) → AreOwn y id l (m ∷ rest) → (rest ≡ []) × (answers_to y id l m ≡ true)
one_own y id l m [] a = (refl, a)
one_own y id l m (n ∷ ms) a = absurd a

same_number : (x y : ℕ) → Some x ≡ Some y → x ≡ y
same_number x y h = cc

-- it was handed over, and then an answer was taken
module _ (c : Config) (ns : List (ℕ × Node)) (y id : ℕ) (ask : Msg) (to : ask.to ≡ whos.Node y) (from : ask.from ≡ whos.Node id) (far : Far) (nodes : far.nodes ≡ ns) (present : far.present ≡ Some y) (none : far.answers ≡ []) (T U : Far → Type 0) (sent : IsHanded c far ask T) where
  here : sent.node ≡ node_of ask.to
  here = same_number sent.node y (sym sent.present ∙ present) ∙ sym (ap node_of to)

  done : handed c far.nodes sent.node ask ≡ handed c ns (node_of ask.to) ask
  done = ap (λ k. handed c far.nodes k ask) here ∙ ap (λ (x : List (ℕ × Node)). handed c x (node_of ask.to) ask) nodes

  up : is_up_in ns (node_of ask.to) ≡ true
  up = ap (λ (x : List (ℕ × Node)). is_up_in x (node_of ask.to)) (sym nodes) ∙ (ap (λ k. is_up_in far.nodes k) (sym here) ∙ sent.up)

  reached : Far
  reached = record { nodes = (handed c far.nodes sent.node ask).state.nodes; present = Some sent.node; answers = far.answers ++ (handed c far.nodes sent.node ask).sends }

  answered : (ms : List Msg) → (far.answers ++ (handed c far.nodes sent.node ask).sends) ≡ ms → (handed c ns (node_of ask.to) ask).sends ≡ ms
  answered ms e = ap (λ (d : Done). d.sends) (sym done) ∙ (ap (λ l. l ++ (handed c far.nodes sent.node ask).sends) (sym none) ∙ e)

  first_is : (m : Msg) (rest : List Msg) → (far.answers ++ (handed c far.nodes sent.node ask).sends) ≡ m ∷ rest → (rest ≡ []) × (answers_to y id ask.log m ≡ true)
  first_is m rest e = one_own y id ask.log m rest (subst (λ l. AreOwn y id ask.log l) (answered (m ∷ rest) e) (subst (λ k. AreOwn k id ask.log (handed c ns (node_of ask.to) ask).sends) (ap node_of to) (handed_own id ask from c ns (node_of ask.to))))

  pub handed_on : (result : Result (Option Msg) Stop) → ((f : Far) → T f → TakesOwn f U y id ask.log result) → Fetched c U (Some ns) ask result
  unfolding reached
  handed_on (Ok (Some m)) takes =
      let t = takes reached sent.told in
      let one = first_is m t.rest t.first in
      ((up, answered (m ∷ []) (t.first ∙ ap (λ l. m ∷ l) one.0)), (record reached { answers = t.rest }, t.told, ap (λ (d : Done). d.state.nodes) done))
  handed_on (Ok None) takes = none_on (takes reached sent.told)
    where
      none_on : ((far.answers ++ (handed c far.nodes sent.node ask).sends ≡ []) × U reached) ⊎ IsForeign reached U y id ask.log → ToldAs U (Some ns) ⊎ (Hands c (Some ns) ask [] × ToldAs U (handed_far c (Some ns) ask))
      none_on (inl t) = inr ((up, answered [] t.0), (reached, t.1, ap (λ (d : Done). d.state.nodes) done))
      none_on (inr t) = absurd (true≢false (sym (first_is t.message t.taken.rest t.taken.first).1 ∙ t.foreign))
  handed_on (Err stop) takes = tt

-- where nothing is told of the nodes, nothing has to be shown
pub untold : (c : Config) (T : Far → Type 0) (ask : Msg) (result : Result (Option Msg) Stop) → Fetched c T None ask result
untold c T ask (Ok (Some m)) = (tt, tt)
untold c T ask (Ok None) = inl tt
untold c T ask (Err stop) = tt

pub handed_hushes : (c : Config) (far : Option (List (ℕ × Node))) (ask : Msg) (silent : Bool) → IsHushed silent (handed_far c far ask) → IsHushed silent far
handed_hushes c None ask silent h = h
handed_hushes c (Some ns) ask silent h = h
