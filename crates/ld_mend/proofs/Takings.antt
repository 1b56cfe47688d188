-- What an answer does to the node that asked.
use Rattle.std.proofs.Common.{◌≡◌, ◌⊎◌, ℕ, zero, suc, slice_get, List, [], ◌∷◌, ◌++◌, Option, None, Some, Bool, true, refl, sym, ap, ◌∙◌, subst, inl, inr}
use Rattle.std.specs.List.{AllByRecursion}
use Rattle.std.proofs.lemmas.List.{append-nil}
use Rattle.ld_disk.specs.declared.disk.Disk.{Ghosts}
use Rattle.ld_config.specs.declared.config.Config.{Config}
use Rattle.ld_msg.specs.declared.msg.Msg.{Msg}
use Rattle.ld_msg.specs.Register.{Register}
use Rattle.ld_op.specs.Answers.{Handled}
use Rattle.ld_op.specs.Handles.{answer_message}
use Rattle.ld_machine.specs.Disk as machine
use Rattle.ld_node.specs.Known.{Known}
use Rattle.ld_node.specs.Changes.{kept, laid_with, IsPast}
use Rattle.ld_node.specs.Msgs.{handled, released_after}
use Rattle.ld_node.specs.declared.node.Node.{Node}
use Rattle.ld_node.specs.Node.{id_of, known_of, plain_of, released_of, layout_of}
use Rattle.ld_dial.specs.Far.{Far}
use Rattle.ld_mend.specs.Course.{At, Asks, Loses, IsAsked, Hands, handed_far, ToldAs, IsHushed, Halted}
use Rattle.ld_mend.specs.Standing.{at_of, Drove}
use Rattle.ld_mend.specs.declared.stop.Stop.{Stop}
use Rattle.ld_mend.proofs.Going.{moved_one, moved_on, halted_on}
use Rattle.ld_mend.proofs.Handing.{handed_hushes}

module _ {D : Type 0} {g : Ghosts D} (old : Node D g) (id : ℕ) (known : Known) (m : Msg) (number : id_of old ≡ id) (known_is : known_of old ≡ known) where
  done_as : handled (id_of old) (known_of old) (released_of old) (plain_of old) m ≡ handled id known (released_of old) (plain_of old) m
  done_as = ap (λ n. handled n (known_of old) (released_of old) (plain_of old) m) number ∙ ap (λ (x : Known). handled id x (released_of old) (plain_of old) m) known_is

  pub fits : IsPast (layout_of old) (handled id known (released_of old) (plain_of old) m).op → IsPast (layout_of old) (handled (id_of old) (known_of old) (released_of old) (plain_of old) m).op
  fits past = subst (λ (h : Handled). IsPast (layout_of old) h.op) (sym done_as) past

  pub op_as : (handled (id_of old) (known_of old) (released_of old) (plain_of old) m).op ≡ (handled id known (released_of old) (plain_of old) m).op
  op_as = ap (λ (h : Handled). h.op) done_as

  pub plain_as : (new : Node D g) → plain_of new ≡ kept (handled (id_of old) (known_of old) (released_of old) (plain_of old) m).op (plain_of old) → plain_of new ≡ kept (handled id known (released_of old) (plain_of old) m).op (plain_of old)
  plain_as new e = e ∙ ap (λ (h : Handled). kept h.op (plain_of old)) done_as

  pub layout_as : (new : Node D g) → layout_of new ≡ laid_with (layout_of old) (handled (id_of old) (known_of old) (released_of old) (plain_of old) m).op → layout_of new ≡ laid_with (layout_of old) (handled id known (released_of old) (plain_of old) m).op
  layout_as new e = e ∙ ap (λ (h : Handled). laid_with (layout_of old) h.op) done_as

  pub released_as : (new : Node D g) → released_of new ≡ released_after (id_of old) (known_of old) (released_of old) m → released_of new ≡ released_after id known (released_of old) m
  released_as new e = e ∙ (ap (λ n. released_after n (known_of old) (released_of old) m) number ∙ ap (λ (x : Known). released_after id x (released_of old) m) known_is)

  pub answers_as : answer_message (id_of old) m (handled (id_of old) (known_of old) (released_of old) (plain_of old) m).answer ≡ answer_message id m (handled id known (released_of old) (plain_of old) m).answer
  answers_as = ap (λ (h : Handled). answer_message (id_of old) m h.answer) done_as ∙ ap (λ n. answer_message n m (handled id known (released_of old) (plain_of old) m).answer) number

-- nothing was taken: the ask was lost, or its node answered nothing
module _ {D : Type 0} {g : Ghosts D} (There : Type 0) (T : Far → Type 0) (id : ℕ) (known : Known) (c : Config) (r : Register) (node : Node D g) (asked : List Msg) (far : Option (List (ℕ × machine.Node))) (ask : Msg) (written : List ℕ) where
  pub untaken : There → IsAsked id known c r (at_of node asked far) ask → ToldAs T far ⊎ (Hands c far ask [] × ToldAs T (handed_far c far ask))
      → Drove There T id known c r (at_of node asked far) (at_of node asked) [] written written
  untaken there is (inl told) = record {
    there = there;
    far = far;
    told_far = told;
    hushes = λ silent h. h;
    moved = moved_one id known c r (at_of node asked far) (at_of node asked far) (Loses ask) written written is refl (sym (append-nil written));
  }
  untaken there is (inr h) = record {
    there = there;
    far = handed_far c far ask;
    told_far = h.1;
    hushes = handed_hushes c far ask;
    moved = moved_one id known c r (at_of node asked far) (at_of node asked (handed_far c far ask)) (Asks ask) written written (is, h.0) refl (sym (append-nil written));
  }

pub on_right : {A B C : Type 0} → A ⊎ B → (B → C) → A ⊎ C
on_right (inl a) f = inl a
on_right (inr b) f = inr (f b)

-- one part after the other
pub hushed_on : (one other : Bool) (far : Option (List (ℕ × machine.Node))) → (one ≡ true → other ≡ true) → IsHushed one far → IsHushed other far
hushed_on one other None f h = h
hushed_on one other (Some ns) f h = f h

module _ (one other : Bool) (louder : one ≡ true → other ≡ true) (There U : Type 0) (T V : Far → Type 0) (id : ℕ) (known : Known) (c : Config) (r : Register) (s : At) (ends then_ends : Option (List (ℕ × machine.Node)) → At) (told more : List (ℕ × Option ℕ)) (a b d : List ℕ) (far_of : (far : Option (List (ℕ × machine.Node))) → (ends far).far ≡ far) where
  drove_then : (w : Drove There T id known c r s ends told a b) → Drove U V id known c r (ends w.far) then_ends more b d → Drove U V id known c r s then_ends (told ++ more) a d
  drove_then w v = record {
    there = v.there;
    far = v.far;
    told_far = v.told_far;
    hushes = λ silent h. w.hushes silent (subst (λ o. IsHushed silent o) (far_of w.far) (v.hushes silent h));
    moved = moved_on id known c r s (ends w.far) (then_ends v.far) told more a b d w.moved v.moved;
  }

  pub drove_on : IsHushed one s.far ⊎ Drove There T id known c r s ends told a b → ((far : Option (List (ℕ × machine.Node))) → There → ToldAs T far → IsHushed other far ⊎ Drove U V id known c r (ends far) then_ends more b d)
      → IsHushed other s.far ⊎ Drove U V id known c r s then_ends (told ++ more) a d
  drove_on (inl h) f = inl (hushed_on one other s.far louder h)
  drove_on (inr w) f = drove_by w (f w.far w.there w.told_far)
    where
      drove_by : (w : Drove There T id known c r s ends told a b) → IsHushed other w.far ⊎ Drove U V id known c r (ends w.far) then_ends more b d → IsHushed other s.far ⊎ Drove U V id known c r s then_ends (told ++ more) a d
      drove_by w (inl h) = inl (w.hushes other h)
      drove_by w (inr v) = inr (drove_then w v)

module _ (one other : Bool) (louder : one ≡ true → other ≡ true) (There : Type 0) (T : Far → Type 0) (id : ℕ) (known : Known) (c : Config) (r : Register) (left : List ℕ → Type 0) (s : At) (ends : Option (List (ℕ × machine.Node)) → At) (told : List (ℕ × Option ℕ)) (a b d : List ℕ) (stop : Stop) where
  pub stopped_on : IsHushed one s.far ⊎ Drove There T id known c r s ends told a b → ((far : Option (List (ℕ × machine.Node))) → There → ToldAs T far → IsHushed other far ⊎ Halted id known c r left (ends far) b d stop)
      → IsHushed other s.far ⊎ Halted id known c r left s a d stop
  stopped_on (inl h) f = inl (hushed_on one other s.far louder h)
  stopped_on (inr w) f = stopped_by w (f w.far w.there w.told_far)
    where
      stopped_by : (w : Drove There T id known c r s ends told a b) → IsHushed other w.far ⊎ Halted id known c r left (ends w.far) b d stop → IsHushed other s.far ⊎ Halted id known c r left s a d stop
      stopped_by w (inl h) = inl (w.hushes other h)
      stopped_by w (inr v) = inr (halted_on id known c r left s (ends w.far) told a b d stop w.moved v)

pub all-slice_get : {X : Type 0} (P : X → Type 0) (xs : List X) (i : ℕ) (x : X) → AllByRecursion P xs → slice_get xs i ≡ Some x → P x
all-slice_get P [] i x a h = absurd cc
all-slice_get P (y ∷ xs) zero x a h = let e : y ≡ x = cc in subst P e a.0
all-slice_get P (y ∷ xs) (suc i) x a h = all-slice_get P xs i x a.1 h
