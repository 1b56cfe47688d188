-- Deeds one after the other.
use Rattle.std.proofs.Common.{◌≡◌, ◌⊎◌, ℕ, List, [], ◌∷◌, ◌++◌, Option, refl, sym, ap, ◌∙◌, subst, inl, inr, append_assoc}
use Rattle.std.proofs.lemmas.List.{append-nil}
use Rattle.ld_config.specs.declared.config.Config.{Config}
use Rattle.ld_msg.specs.Register.{Register}
use Rattle.ld_segment.specs.Lies.{StandsFor}
use Rattle.ld_register.specs.declared.fault.RegisterFault.{RegisterFault}
use Rattle.ld_register.specs.declared.fault.RegisterFault.TheVariants as registers
use Rattle.ld_node.specs.Known.{Known}
use Rattle.ld_node.specs.declared.fault.NodeFault.{NodeFault}
use Rattle.ld_node.specs.declared.fault.NodeFault.TheVariants as nodes
use Rattle.ld_mend.specs.Output.{WritesPart}
use Rattle.ld_mend.specs.Stops.{stop_of, look_stop}
use Rattle.ld_mend.specs.Course.{At, Deed, after, after_all, text_of, text_all, told_by, told_all, IsDeed, AreDeeds, Went, Moved, MayDo, Leaves, Halted}
use Rattle.ld_mend.specs.declared.stop.Stop.{Stop}
use Rattle.ld_mend.specs.declared.stop.Stop.TheVariants as stops

module _ (id : ℕ) (known : Known) (c : Config) (r : Register) where
  after-append : (s : At) (ds es : List Deed) → after_all id known c r s (ds ++ es) ≡ after_all id known c r (after_all id known c r s ds) es
  after-append s [] es = refl
  after-append s (d ∷ ds) es = after-append (after id known c r s d) ds es

  text-append : (s : At) (ds es : List Deed) → text_all id known c r s (ds ++ es) ≡ text_all id known c r s ds ++ text_all id known c r (after_all id known c r s ds) es
  text-append s [] es = refl
  text-append s (d ∷ ds) es =
      ap (λ l. text_of id known c r s d ++ l) (text-append (after id known c r s d) ds es)
      ∙ sym (append_assoc (text_of id known c r s d) (text_all id known c r (after id known c r s d) ds) (text_all id known c r (after_all id known c r (after id known c r s d) ds) es))

  told-append : (ds es : List Deed) → told_all id known c r (ds ++ es) ≡ told_all id known c r ds ++ told_all id known c r es
  told-append [] es = refl
  told-append (d ∷ ds) es =
      ap (λ l. told_by id known c r d ++ l) (told-append ds es) ∙ sym (append_assoc (told_by id known c r d) (told_all id known c r ds) (told_all id known c r es))

  are-append : (s : At) (ds es : List Deed) → AreDeeds id known c r s ds → AreDeeds id known c r (after_all id known c r s ds) es → AreDeeds id known c r s (ds ++ es)
  are-append s [] es a b = b
  are-append s (d ∷ ds) es a b = (a.0, are-append (after id known c r s d) ds es a.1 b)

  pub went_here : (s : At) → Went id known c r s s [] []
  went_here s = record { deeds = []; are = tt; ends = refl; told_are = refl; text_is = refl }

  pub went_one : (s : At) (d : Deed) → IsDeed id known c r s d → Went id known c r s (after id known c r s d) (told_by id known c r d) (text_of id known c r s d)
  went_one s d is = record { deeds = d ∷ []; are = (is, tt); ends = refl; told_are = sym (append-nil (told_by id known c r d)); text_is = sym (append-nil (text_of id known c r s d)) }

  pub went_on : (s t u : At) (told more : List (ℕ × Option ℕ)) (xs ys : List ℕ) → Went id known c r s t told xs → Went id known c r t u more ys → Went id known c r s u (told ++ more) (xs ++ ys)
  went_on s t u told more xs ys v w = record {
    deeds = v.deeds ++ w.deeds;
    are = are-append s v.deeds w.deeds v.are (subst (λ (x : At). AreDeeds id known c r x w.deeds) v.ends w.are);
    ends = w.ends ∙ (ap (λ (x : At). after_all id known c r x w.deeds) v.ends ∙ sym (after-append s v.deeds w.deeds));
    told_are = ap (λ l. l ++ more) v.told_are ∙ (ap (λ l. told_all id known c r v.deeds ++ l) w.told_are ∙ sym (told-append v.deeds w.deeds));
    text_is = ap (λ l. l ++ ys) v.text_is ∙ (ap (λ l. text_all id known c r s v.deeds ++ l) (w.text_is ∙ ap (λ (x : At). text_all id known c r x w.deeds) v.ends) ∙ sym (text-append s v.deeds w.deeds));
  }

  pub moved_here : (s : At) (old : List ℕ) → Moved id known c r s s [] old old
  moved_here s old = record { text = []; went = went_here s; written = sym (append-nil old) }

  pub moved_one : (s t : At) (d : Deed) (old new : List ℕ) → IsDeed id known c r s d → t ≡ after id known c r s d → new ≡ old ++ text_of id known c r s d → Moved id known c r s t (told_by id known c r d) old new
  moved_one s t d old new is e w = record {
    text = text_of id known c r s d;
    went = subst (λ (x : At). Went id known c r s x (told_by id known c r d) (text_of id known c r s d)) (sym e) (went_one s d is);
    written = w;
  }

  pub moved_on : (s t u : At) (told more : List (ℕ × Option ℕ)) (a b d : List ℕ) → Moved id known c r s t told a b → Moved id known c r t u more b d → Moved id known c r s u (told ++ more) a d
  moved_on s t u told more a b d v w = record {
    text = v.text ++ w.text;
    went = went_on s t u told more v.text w.text v.went w.went;
    written = w.written ∙ (ap (λ l. l ++ w.text) v.written ∙ append_assoc a v.text w.text);
  }

  pub halted_here : (left : List ℕ → Type 0) (s : At) (old : List ℕ) (stop : Stop) → Leaves id known c r left s stop → Halted id known c r left s old old stop
  halted_here left s old stop leaves = record {
    at = s;
    told = [];
    text = [];
    went = went_here s;
    written = record { part = []; missing = []; written = sym (append-nil old); whole = refl };
    leaves = leaves;
  }

  -- the last text in part
  pub halted_in : (left : List ℕ → Type 0) (s t : At) (d : Deed) (old new : List ℕ) (stop : Stop) → IsDeed id known c r s d → t ≡ after id known c r s d → WritesPart old new (text_of id known c r s d) → Leaves id known c r left t stop → Halted id known c r left s old new stop
  halted_in left s t d old new stop is e w leaves = record {
    at = t;
    told = told_by id known c r d;
    text = text_of id known c r s d;
    went = subst (λ (x : At). Went id known c r s x (told_by id known c r d) (text_of id known c r s d)) (sym e) (went_one s d is);
    written = w;
    leaves = leaves;
  }

  pub halted_on : (left : List ℕ → Type 0) (s t : At) (told : List (ℕ × Option ℕ)) (a b d : List ℕ) (stop : Stop) → Moved id known c r s t told a b → Halted id known c r left t b d stop → Halted id known c r left s a d stop
  halted_on left s t told a b d stop v h = record {
    at = h.at;
    told = told ++ h.told;
    text = v.text ++ h.text;
    went = went_on s t h.at told h.told v.text h.text v.went h.went;
    written = record {
      part = v.text ++ h.written.part;
      missing = h.written.missing;
      written = h.written.written ∙ (ap (λ l. l ++ h.written.part) v.written ∙ append_assoc a v.text h.written.part);
      whole = ap (λ l. v.text ++ l) h.written.whole ∙ sym (append_assoc v.text h.written.part h.written.missing);
    };
    leaves = h.leaves;
  }

  -- a look that the register refused
  pub looked_leaves : (left : List ℕ → Type 0) (s : At) (fault : RegisterFault) → ((bytes : List ℕ) → left bytes → StandsFor s.plain bytes) → Leaves id known c r left s (look_stop fault)
  looked_leaves left s registers.NoMemory stands = stands
  looked_leaves left s (registers.Damaged place) stands = stands
  looked_leaves left s registers.Failed stands = stands
  looked_leaves left s registers.LogLimit stands = stands
  looked_leaves left s (registers.Behind lce next) stands = stands
  looked_leaves left s (registers.Overtaken kept) stands = stands
  looked_leaves left s registers.EpochLimit stands = stands
  looked_leaves left s registers.GenLimit stands = stands
  looked_leaves left s registers.SwapLimit stands = stands
  looked_leaves left s registers.Full stands = stands

  -- a call that the node refused
  pub refused_leaves : (left : List ℕ → Type 0) (s : At) (fault : NodeFault) → (fault ≡ nodes.NeedsLoad → ⊥) → ((place : ℕ) → fault ≡ nodes.Damaged place → ⊥)
      → (fault ≡ nodes.Disk → ((bytes : List ℕ) → left bytes → StandsFor s.plain bytes) ⊎ MayDo id known c r left s)
      → (fault ≡ nodes.Disk) ⊎ ((bytes : List ℕ) → left bytes → StandsFor s.plain bytes) → Leaves id known c r left s (stop_of fault)
  refused_leaves left s nodes.Disk loads damaged disk still = disk refl
  refused_leaves left s nodes.NeedsLoad loads damaged disk still = absurd (loads refl)
  refused_leaves left s (nodes.Damaged place) loads damaged disk still = damaged place refl
  refused_leaves left s nodes.Full loads damaged disk (inl e) = absurd cc
  refused_leaves left s nodes.Full loads damaged disk (inr stands) = stands
  refused_leaves left s nodes.NoMemory loads damaged disk (inl e) = absurd cc
  refused_leaves left s nodes.NoMemory loads damaged disk (inr stands) = stands
  refused_leaves left s (nodes.Register fault) loads damaged disk (inl e) = absurd cc
  refused_leaves left s (nodes.Register fault) loads damaged disk (inr stands) = looked_leaves left s fault stands

  -- where the output failed, and where memory ended
  pub stands_leaves : (left : List ℕ → Type 0) (s : At) (stop : Stop) → ((place : ℕ) → stop ≡ stops.Damaged place → ⊥) → ((bytes : List ℕ) → left bytes → StandsFor s.plain bytes) → Leaves id known c r left s stop
  stands_leaves left s stops.Disk damaged stands = inl stands
  stands_leaves left s (stops.Damaged place) damaged stands = damaged place refl
  stands_leaves left s stops.Full damaged stands = stands
  stands_leaves left s stops.Register damaged stands = stands
  stands_leaves left s (stops.RegisterDamaged place) damaged stands = stands
  stands_leaves left s (stops.BadFrame fault) damaged stands = stands
  stands_leaves left s stops.Write damaged stands = stands
  stands_leaves left s stops.NoMemory damaged stands = stands
