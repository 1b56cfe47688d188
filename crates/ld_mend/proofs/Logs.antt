-- The logs of a configuration, one after the other, and what is told of them.
use Rattle.std.proofs.Common.{◌≡◌, ◌⊎◌, ◌+◌, ℕ, zero, suc, List, [], ◌∷◌, ◌++◌, Option, None, Some, Bool, true, false, ◌&&◌, ◌||◌, ◌==◌, take, slice_get, refl, sym, ap, ◌∙◌, subst, inl, inr, arith}
use Rattle.std.specs.Prelude.{is_none}
use Rattle.std.specs.Result.{MatchResult}
use Rattle.std.specs.declared.result.Result.{Result}
use Rattle.std.specs.declared.result.Result.TheVariants.{Ok, Err}
use Rattle.std.proofs.lemmas.Bool.{eq-eqb}
use Rattle.ld_table.specs.Words.{is_in}
use Rattle.ld_ids.specs.declared.set.Spec.{Spec}
use Rattle.ld_config.specs.declared.config.Config.{Config}
use Rattle.ld_msg.specs.declared.msg.Msg.{Msg}
use Rattle.ld_msg.specs.Register.{Register}
use Rattle.ld_machine.specs.Disk as machine
use Rattle.ld_node.specs.Known.{Known, logs_in}
use Rattle.ld_node.specs.declared.tick.Ticked.TheVariants as answers
use Rattle.ld_dial.specs.Far.{Far}
use Rattle.ld_mend.specs.Course.{At, Stands, tick_answer, told_logs, are_mended, Moved, Halted, ToldAs, IsHushed}
use Rattle.ld_mend.specs.Standing.{Drives, OpenAt, Told, IsMended, logs_of}
use Rattle.ld_mend.specs.declared.stop.Stop.{Stop}
use Rattle.ld_mend.proofs.Going.{moved_on, halted_on}
use Rattle.ld_mend.proofs.Takings.{hushed_on}

pub took : (i n : ℕ) (ns : List ℕ) → slice_get ns i ≡ Some n → take (i + 1) ns ≡ take i ns ++ n ∷ []
took i n [] is = absurd (cc)
took zero n (m ∷ ns) is = let same : m ≡ n = cc in ap (λ x. x ∷ []) same
took (suc i) n (m ∷ ns) is =
    let e : suc i + 1 ≡ suc (i + 1) = omega arith in
    rw e (ap (λ l. m ∷ l) (took i n ns is))

pub log_at : (specs : List Spec) (i : ℕ) (s : Spec) → slice_get specs i ≡ Some s → slice_get (logs_of specs) i ≡ Some s.log
log_at [] i s h = absurd cc
log_at (x ∷ specs) zero s h = let e : x ≡ s = cc in ap (λ (y : Spec). Some y.log) e
log_at (x ∷ specs) (suc i) s h = log_at specs i s h

or_true : (b c : Bool) → c ≡ true → (b || c) ≡ true
or_true true c h = refl
or_true false c h = h

pub log_known : (specs : List Spec) (i n : ℕ) → slice_get (logs_of specs) i ≡ Some n → is_in n (logs_in specs) ≡ true
log_known [] i n h = absurd cc
log_known (x ∷ specs) zero n h = let e : x.log ≡ n = cc in ap (λ b. b || is_in n (logs_in specs)) (eq-eqb x.log n e)
log_known (x ∷ specs) (suc i) n h = or_true (x.log == n) (is_in n (logs_in specs)) (log_known specs i n h)

pub and_true : (b : Bool) → b ≡ (b && true)
and_true true = refl
and_true false = refl

and_more : (b u v w : Bool) → w ≡ (u && v) → (b && w) ≡ ((b && u) && v)
and_more true u v w h = h
and_more false u v w h = refl

mended-append : (xs ys : List (ℕ × Option ℕ)) → are_mended (xs ++ ys) ≡ (are_mended xs && are_mended ys)
mended-append [] ys = refl
mended-append (x ∷ xs) ys = and_more (is_none x.1) (are_mended xs) (are_mended ys) (are_mended (xs ++ ys)) (mended-append xs ys)

logs-append : (xs ys : List (ℕ × Option ℕ)) → told_logs (xs ++ ys) ≡ told_logs xs ++ told_logs ys
logs-append [] ys = refl
logs-append (x ∷ xs) ys = ap (λ l. x.0 ∷ l) (logs-append xs ys)

module _ (id : ℕ) (known : Known) (c : Config) (r : Register) where
  pub told_none : (s : At) (ends : List Msg → At) (asked : List Msg) (old : List ℕ) → Moved id known c r s (ends asked) [] old old → Told id known c r s ends [] true old old
  told_none s ends asked old m = record { asked = asked; told = []; moved = m; logs_are = refl; mended_is = refl }

  pub told_on : (s : At) (ends more : List Msg → At) (logs : List ℕ) (l : ℕ) (one other : Bool) (a b d : List ℕ) → (t : Told id known c r s ends logs one a b) → Told id known c r (ends t.asked) more (l ∷ []) other b d → Told id known c r s more (logs ++ l ∷ []) (one && other) a d
  told_on s ends more logs l one other a b d t v = record {
    asked = v.asked;
    told = t.told ++ v.told;
    moved = moved_on id known c r s (ends t.asked) (more v.asked) t.told v.told a b d t.moved v.moved;
    logs_are = logs-append t.told v.told ∙ (ap (λ x. x ++ told_logs v.told) t.logs_are ∙ ap (λ x. logs ++ x) v.logs_are);
    mended_is = ap (λ x. x && other) t.mended_is ∙ (ap (λ x. are_mended t.told && x) v.mended_is ∙ sym (mended-append t.told v.told));
  }

-- what a look at the register adds to a tick that has nothing to do
pub stands_of : (id : ℕ) (known : Known) (c : Config) (r : Register) (s : At) (l : ℕ) (lacks : Option ℕ) → tick_answer id known c r s l ≡ answers.Nothing → OpenAt id known c r s l lacks → Stands id known c r s l lacks
stands_of id known c r s l None t o = (t, o)
stands_of id known c r s l (Some n) t o = inr (t, o.0, o.1)

-- one part after the other, whatever is asked last
module _ (one other : Bool) (louder : one ≡ true → other ≡ true) (There : Type 0) (T : Far → Type 0) (id : ℕ) (known : Known) (c : Config) (r : Register) (s : At) (ends : List Msg → Option (List (ℕ × machine.Node)) → At) (a b d : List ℕ) (far_of : (asked : List Msg) (far : Option (List (ℕ × machine.Node))) → (ends asked far).far ≡ far) where
  pub drives_on : (U : Type 0) (V : Far → Type 0) (more : List Msg → Option (List (ℕ × machine.Node)) → At) → IsHushed one s.far ⊎ Drives There T id known c r s ends [] a b
      → ((asked : List Msg) (far : Option (List (ℕ × machine.Node))) → There → ToldAs T far → IsHushed other far ⊎ Drives U V id known c r (ends asked far) more [] b d)
      → IsHushed other s.far ⊎ Drives U V id known c r s more [] a d
  drives_on U V more (inl h) f = inl (hushed_on one other s.far louder h)
  drives_on U V more (inr w) f = drives_by w (f w.asked w.drove.far w.drove.there w.drove.told_far)
    where
      drives_by : (w : Drives There T id known c r s ends [] a b) → IsHushed other w.drove.far ⊎ Drives U V id known c r (ends w.asked w.drove.far) more [] b d → IsHushed other s.far ⊎ Drives U V id known c r s more [] a d
      drives_by w (inl h) = inl (w.drove.hushes other h)
      drives_by w (inr v) = inr (record {
        asked = v.asked;
        drove = record {
          there = v.drove.there;
          far = v.drove.far;
          told_far = v.drove.told_far;
          hushes = λ silent h. w.drove.hushes silent (subst (λ o. IsHushed silent o) (far_of w.asked w.drove.far) (v.drove.hushes silent h));
          moved = moved_on id known c r s (ends w.asked w.drove.far) (more v.asked v.drove.far) [] [] a b d w.drove.moved v.drove.moved;
        };
      })

  pub halts_on : (left : List ℕ → Type 0) (stop : Stop) → IsHushed one s.far ⊎ Drives There T id known c r s ends [] a b
      → ((asked : List Msg) (far : Option (List (ℕ × machine.Node))) → There → ToldAs T far → IsHushed other far ⊎ Halted id known c r left (ends asked far) b d stop)
      → IsHushed other s.far ⊎ Halted id known c r left s a d stop
  halts_on left stop (inl h) f = inl (hushed_on one other s.far louder h)
  halts_on left stop (inr w) f = halts_by w (f w.asked w.drove.far w.drove.there w.drove.told_far)
    where
      halts_by : (w : Drives There T id known c r s ends [] a b) → IsHushed other w.drove.far ⊎ Halted id known c r left (ends w.asked w.drove.far) b d stop → IsHushed other s.far ⊎ Halted id known c r left s a d stop
      halts_by w (inl h) = inl (w.drove.hushes other h)
      halts_by w (inr v) = inr (halted_on id known c r left s (ends w.asked w.drove.far) [] a b d stop w.drove.moved v)

  pub mended_on : (U : Type 0) (more : List Msg → Option (List (ℕ × machine.Node)) → At) (logs : List ℕ) (mended : Bool) → IsHushed one s.far ⊎ Drives There T id known c r s ends [] a b
      → ((asked : List Msg) (far : Option (List (ℕ × machine.Node))) → There → U × Told id known c r (ends asked far) (λ last. more last far) logs mended b d)
      → IsHushed other s.far ⊎ IsMended U T id known c r s more logs mended a d
  mended_on U more logs mended (inl h) f = inl (hushed_on one other s.far louder h)
  mended_on U more logs mended (inr w) f =
      let v = f w.asked w.drove.far w.drove.there in
      inr (record {
        there = v.0;
        asked = v.1.asked;
        far = w.drove.far;
        told_far = w.drove.told_far;
        told = v.1.told;
        moved = moved_on id known c r s (ends w.asked w.drove.far) (more v.1.asked w.drove.far) [] v.1.told a b d w.drove.moved v.1.moved;
        logs_are = v.1.logs_are;
        mended_is = v.1.mended_is;
      })

-- behind the rounds the logs are told of
pub finish_by : (silent : Bool) (There U W : Type 0) (T : Far → Type 0) (id : ℕ) (known : Known) (c : Config) (r : Register) (left : List ℕ → Type 0) (s : At) (ends more : List Msg → Option (List (ℕ × machine.Node)) → At) (logs : List ℕ) (a b d : List ℕ) → ((asked : List Msg) (far : Option (List (ℕ × machine.Node))) → (ends asked far).far ≡ far) → (result : Result Bool Stop)
    → IsHushed silent s.far ⊎ Drives There T id known c r s ends [] a b
    → ((asked : List Msg) (far : Option (List (ℕ × machine.Node))) → There → MatchResult result (λ mended. U × W × Told id known c r (ends asked far) (λ last. more last far) logs mended b d) (Halted id known c r left (ends asked far) b d))
    → IsHushed silent s.far ⊎ MatchResult result (λ mended. IsMended (U × W) T id known c r s more logs mended a d) (Halted id known c r left s a d)
finish_by silent There U W T id known c r left s ends more logs a b d far_of (Ok mended) prev f =
    mended_on silent silent (λ h. h) There T id known c r s ends a b d far_of (U × W) more logs mended prev (λ asked far at. let t = f asked far at in ((t.0, t.1), t.2))
finish_by silent There U W T id known c r left s ends more logs a b d far_of (Err stop) prev f =
    halts_on silent silent (λ h. h) There T id known c r s ends a b d far_of left stop prev (λ asked far at heard. inr (f asked far at))
