-- What a tick does, by what is missing and by what a look shows.
use Rattle.std.proofs.Common.{◌≡◌, ◌≤◌, ◌-◌, ◌^◌, ◌⊎◌, inl, inr, ℕ, Bool, true, false, ◌&&◌, List, [], ◌∷◌, ◌++◌, Option, Some, None, refl, ap, sym, ◌∙◌, if◌then◌else◌, nat_lt, nat_le, Result, Ok, Err, arith}
use Rattle.std.specs.Option.{is_some}
use Rattle.std.specs.Result.{is_ok, IsErr, IsErrAnd}
use Rattle.std.proofs.lemmas.Bool.Decides.{nat_tests}
use Rattle.ld_table.specs.Table.{find}
use Rattle.ld_table.specs.Words.{is_in, first}
use Rattle.ld_msg.specs.declared.msg.Summary.{Summary}
use Rattle.ld_msg.specs.declared.msg.Who.TheVariants as whos
use Rattle.ld_msg.specs.Bounds.{IsSummary}
use Rattle.ld_msg.specs.Network.{posted}
use Rattle.ld_msg.specs.Register.{Register, epochs_of, lce_of}
use Rattle.ld_op.specs.declared.op.Op.{Op}
use Rattle.ld_op.specs.Plain.{Plain, Log, log_of}
use Rattle.ld_op.specs.Ticks.{Nothing, tick_with, on_tick, lost_tick, refill_tick, refill_asks, asks_first, missing, lowest_unclean}
use Rattle.ld_node_bounds.specs.States.{last_carried}
use Rattle.ld_node_bounds.proofs.Ops.{summaries_are}
use Rattle.ld_store.specs.Open.{told_plain}
use Rattle.ld_store.specs.Well.{IsWell}
use Rattle.ld_register.specs.Calls.{unarmed}
use Rattle.ld_node.specs.Known.{Known}
use Rattle.ld_node.specs.Looks.{AreClosed, seen, ticked, op_of, answer_of}
use Rattle.ld_node.proofs.Told.{seen_told}
use Rattle.ld_node.specs.declared.fault.NodeFault.{NodeFault}
use Rattle.ld_node.specs.declared.tick.Ticked.{Ticked as Answer}
use Rattle.ld_node.specs.declared.tick.Ticked.TheVariants as answers

-- ---- which logs ----

pub ticked_here : (known : Known) (p : Plain) (l : ℕ) (c : Register) → is_in l known.logs ≡ true → ticked known p l c ≡ seen (log_of p l) c l
unfolding ticked
ticked_here known p l c e = ap (λ b. if b then seen (log_of p l) c l else Nothing) e

pub ticked_nowhere : (known : Known) (p : Plain) (l : ℕ) (c : Register) → is_in l known.logs ≡ false → ticked known p l c ≡ Nothing
unfolding ticked
ticked_nowhere known p l c e = ap (λ b. if b then seen (log_of p l) c l else Nothing) e

seen_of : (told : Option (List ℕ)) (i q : Plain) (l : ℕ) (c : Register) → q ≡ i → seen (log_of q l) c l ≡ seen (log_of (told_plain told i) l) c l
seen_of told i q l c same = ap (λ x. seen (log_of x l) c l) same ∙ seen_told told i l c

-- the op that is kept is that of the definition
pub op_is : (known : Known) (told : Option (List ℕ)) (i q : Plain) (l : ℕ) (c : Register) (o : Option Op) → is_in l known.logs ≡ true → q ≡ i → o ≡ op_of l (seen (log_of q l) c l) → o ≡ op_of l (ticked known (told_plain told i) l c)
op_is known told i q l c o here same is = is ∙ ap (op_of l) (seen_of told i q l c same ∙ sym (ticked_here known (told_plain told i) l c here))

pub answer_is : (id : ℕ) (known : Known) (told : Option (List ℕ)) (i q : Plain) (l : ℕ) (c : Register) (nodes : List ℕ) (a : Answer) → is_in l known.logs ≡ true → nodes ≡ known.nodes → q ≡ i → a ≡ answer_of id l nodes (seen (log_of q l) c l)
    → a ≡ answer_of id l known.nodes (ticked known (told_plain told i) l c)
answer_is id known told i q l c nodes a here all same is = is ∙ (λ j. answer_of id l (all j) ((seen_of told i q l c same ∙ sym (ticked_here known (told_plain told i) l c here)) j))

-- ---- a refusal that is passed on ----

abbrev pub unkept : NodeFault → Result (Unit {0}) NodeFault
unkept fault = Err fault

abbrev pub unanswered : NodeFault → Result Answer NodeFault
unanswered fault = Err fault

unkept_is : (a b : NodeFault) → unanswered a ≡ unanswered b → unkept a ≡ unkept b
unkept_is a b is = let e : a ≡ b = cc in ap unkept e

unanswered_is : (a b : NodeFault) → unkept a ≡ unkept b → unanswered a ≡ unanswered b
unanswered_is a b is = let e : a ≡ b = cc in ap unanswered e

pub no_refusal : {T E : Type 0} (x : T) (e : E) → Ok x ≡ Err e → ⊥
no_refusal x e is = absurd cc

module _ (a : NodeFault) where
  pub passed : (r : Result Answer NodeFault) → IsErr r × IsErrAnd r (λ x. x ≡ a) → r ≡ unanswered a
  passed (Ok v) gives = absurd gives.1
  passed (Err e) gives = ap unanswered gives.1

  pub passed_back : (r : Result Answer NodeFault) (b : NodeFault) → r ≡ unanswered a → r ≡ unanswered b → unkept a ≡ unkept b
  passed_back r b is same = unkept_is a b (sym is ∙ same)

  pub passed_on : (r : Result Answer NodeFault) (b : NodeFault) → r ≡ unanswered a → unkept a ≡ unkept b → r ≡ unanswered b
  passed_on r b is same = is ∙ unanswered_is a b same

  pub only_failed : (r : Result Answer NodeFault) (b : NodeFault) → r ≡ unanswered a → (is_ok r ≡ true) ⊎ (r ≡ unanswered b) → (unkept a ≡ Ok tt) ⊎ (unkept a ≡ unkept b)
  only_failed r b is (inl ok) = let no : false ≡ true = sym (ap is_ok is) ∙ ok in absurd cc
  only_failed r b is (inr same) = inr (passed_back r b is same)

-- ---- what is lost ----

no_greatest : (y : Summary) → IsSummary (2 ^ 32 - 1) y → ⊥
no_greatest y is = omega (arith, is.ballot, is.ballot_most)

-- a summary's epoch is below the greatest one
pub none_greatest : (p : Plain) (l : ℕ) → IsWell p → (y : Summary) → find (2 ^ 32 - 1) (log_of p l).summaries ≡ Some y → ⊥
none_greatest p l well y e = no_greatest y (summaries_are last_carried p l (2 ^ 32 - 1) y well e)

module _ (id l : ℕ) (set : List ℕ) (g : Log) where
  asks_some : (all : Bool) (ms : List ℕ) → is_some (first ms) ≡ true → answer_of id l set (refill_tick all ms) ≡ answers.Asked (posted (whos.Node id) l (asks_first id set ms))
  asks_some all [] some = absurd cc
  asks_some all (m ∷ ms) some = refl

  op_none : (all : Bool) (ms : List ℕ) → is_some (first ms) ≡ true → None ≡ op_of l (refill_tick all ms)
  op_none all [] some = absurd cc
  op_none all (m ∷ ms) some = refl

  none_missing : (all : Bool) (ms : List ℕ) → is_some (first ms) ≡ false → refill_tick all ms ≡ refill_tick all []
  none_missing all [] none = refl
  none_missing all (m ∷ ms) none = absurd cc

  pub not_lost : g.lost ≡ false → lost_tick g ≡ Nothing
  not_lost lost = ap (λ (b : Bool). if b then refill_tick (nat_lt g.lost_to (lowest_unclean g)) (missing g) else Nothing) lost

  is_lost : g.lost ≡ true → lost_tick g ≡ refill_tick (nat_lt g.lost_to (lowest_unclean g)) (missing g)
  is_lost lost = ap (λ (b : Bool). if b then refill_tick (nat_lt g.lost_to (lowest_unclean g)) (missing g) else Nothing) lost

  asks_are : g.lost ≡ true → refill_asks id set g ≡ asks_first id set (missing g)
  unfolding refill_asks
  asks_are lost = ap (λ (b : Bool). if b then asks_first id set (missing g) else []) lost

  -- a number is missing
  pub asked : g.lost ≡ true → is_some (first (missing g)) ≡ true → answers.Asked ([] ++ posted (whos.Node id) l (refill_asks id set g)) ≡ answer_of id l set (lost_tick g)
  asked lost some =
      ap (λ ms. answers.Asked (posted (whos.Node id) l ms)) (asks_are lost)
      ∙ (sym (asks_some (nat_lt g.lost_to (lowest_unclean g)) (missing g) some) ∙ ap (answer_of id l set) (sym (is_lost lost)))

  pub asked_op : g.lost ≡ true → is_some (first (missing g)) ≡ true → None ≡ op_of l (lost_tick g)
  asked_op lost some = op_none (nat_lt g.lost_to (lowest_unclean g)) (missing g) some ∙ ap (op_of l) (sym (is_lost lost))

  -- nothing is missing
  pub nothing_missing : g.lost ≡ true → is_some (first (missing g)) ≡ false → refill_tick (nat_lt g.lost_to (lowest_unclean g)) [] ≡ lost_tick g
  nothing_missing lost none = sym (is_lost lost ∙ none_missing (nat_lt g.lost_to (lowest_unclean g)) (missing g) none)

-- ---- the definition by the register's summaries ----

shown_if : (a : Bool) (o : Option Summary) → ((y : Summary) → o ≡ Some y → a ≡ true) → (if a then o else None) ≡ o
shown_if true o all = refl
shown_if false None all = refl
shown_if false (Some y) all = absurd (cc (all y refl))

is_shown : (e lce : ℕ) → (1 ≤ e) × (e ≤ lce) → (nat_le 1 e && nat_le e lce) ≡ true
is_shown e lce is = let from = is.0 in let upto = is.1 in grind (arith, nat_tests)

-- where each summary in the register is one of a closed epoch, a look shows what the register has
pub seen_is : (g : Log) (c : Register) (l : ℕ) → AreClosed c l → seen g c l ≡ on_tick g (epochs_of c l).summaries
unfolding on_tick
seen_is g c l closed = ap (tick_with g) (shown_if _ (find (lowest_unclean g) (epochs_of c l).summaries) (λ y e. is_shown (lowest_unclean g) (lce_of c l) (closed (lowest_unclean g) y e)))

-- the same for a tick
pub ticked_is : (known : Known) (p : Plain) (l : ℕ) (c : Register) → AreClosed c l → ticked known p l c ≡ (if is_in l known.logs then on_tick (log_of p l) (epochs_of c l).summaries else Nothing)
unfolding ticked
ticked_is known p l c closed = ap (λ t. if is_in l known.logs then t else Nothing) (seen_is (log_of p l) c l closed)

-- a fault that is armed in the contents makes no difference
pub ticked_unarmed : (known : Known) (p : Plain) (l : ℕ) (c : Register) → ticked known p l (unarmed c) ≡ ticked known p l c
unfolding ticked
ticked_unarmed known p l c = refl
