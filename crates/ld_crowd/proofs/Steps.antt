-- How serving goes on with each call.
use Rattle.std.proofs.Common.{◌≡◌, ◌≢◌, ◌≤◌, ◌+◌, ℕ, List, [], ◌∷◌, ◌++◌, refl, sym, ◌∙◌, ap, subst, arith, append_assoc, ⊎_elim}
use Rattle.std.proofs.lemmas.Bool.{cases_eq}
use Rattle.std.specs.Prelude.{Bool, true, false, ◌==◌, if◌then◌else◌, Option, None, Some, IfSome}
use Rattle.ld_past.specs.Events.{Event}
use Rattle.ld_crowd.specs.Calls.{came, silenced, turned, nobody, read, ended, said, finished, dismissed, read_of, said_to, is_ended, is_finished, is_dismissed, arrivals}
use Rattle.ld_crowd.specs.Course.{Taken, of, frames, after_taken, answered, IsTalk}
use Rattle.ld_crowd.specs.Serving.{Passes, IsWith, AreWith, GoesOn, GoOn, put, plain, AreSteps}
use Rattle.ld_crowd.proofs.Talks.{same_self, not_same, of_same, of_other, frames_push}

-- ---- lists that are empty ----

front_none : (a b : List ℕ) → [] ≡ a ++ b → b ≡ []
front_none [] b e = sym e
front_none (x ∷ a) b e = absurd cc

maybe : (o : Option (List ℕ)) (P Q : List ℕ → Type 0) → ((h : List ℕ) → P h → Q h) → IfSome o P → IfSome o Q
maybe None P Q f x = tt
maybe (Some h) P Q f x = f h x

if_true : (b x : Bool) → x ≡ true → (if b then true else x) ≡ true
if_true true x e = refl
if_true false x e = e

-- ---- what is held of one peer, and of the others ----

pub put_same : (p : ℕ) (o : Option (List ℕ)) (now : ℕ → Option (List ℕ)) → put p o now p ≡ o
put_same p o now = ap (λ (b : Bool). if b then o else now p) (same_self p)

pub put_other : (g p : ℕ) (o : Option (List ℕ)) (now : ℕ → Option (List ℕ)) → g ≢ p → put p o now g ≡ now g
put_other g p o now other = ap (λ (b : Bool). if b then o else now g) (not_same g p other)

pub put_none : (p : ℕ) (now : ℕ → Option (List ℕ)) → now p ≡ None → (g : ℕ) → now g ≡ put p None now g
put_none p now none g = ⊎_elim
    (λ (e : g ≡ p). subst (λ (k : ℕ). now k ≡ put p None now k) (sym e) (none ∙ sym (put_same p None now)))
    (λ (ne : g ≢ p). sym (put_other g p None now ne))
    (cases_eq g p)

module _ {M A : Type 0} (frame : M → List ℕ) (bytes : A → List ℕ) (waits refused : List ℕ → Type 0) where
  abbrev On : List Event → List (Taken (M × A)) → ℕ → Option (List ℕ) → Type 0
  On did ts g now = GoesOn frame bytes waits refused did ts g now

  abbrev With : List Event → List (Taken (M × A)) → ℕ → List ℕ → Type 0
  With did ts g held = IsWith frame bytes waits refused did ts g held

  -- ---- calls in which no byte passes ----

  pub turned_on : (did : List Event) (ts : List (Taken (M × A))) (g p : ℕ) (now : Option (List ℕ)) → On did ts g now → On (turned p ∷ did) ts g now
  turned_on did ts g p now x = record { held = x.held; stands = record { passes = x.stands.passes; less = x.stands.less; off = x.stands.off }; here = x.here; fresh = x.fresh }

  pub nobody_on : (did : List Event) (ts : List (Taken (M × A))) (g w : ℕ) (now : Option (List ℕ)) → On did ts g now → On (nobody w ∷ did) ts g now
  nobody_on did ts g w now x = record { held = x.held; stands = record { passes = x.stands.passes; less = x.stands.less; off = x.stands.off }; here = x.here; fresh = x.fresh }

  pub silenced_on : (did : List Event) (ts : List (Taken (M × A))) (g p : ℕ) (now : Option (List ℕ)) → On did ts g now → On (silenced p ∷ did) ts g now
  silenced_on did ts g p now x = record { held = x.held; stands = record { passes = x.stands.passes; less = x.stands.less; off = x.stands.off }; here = x.here; fresh = x.fresh }

  pub ended_on : (did : List Event) (ts : List (Taken (M × A))) (g p : ℕ) (now : Option (List ℕ)) → On did ts g now → On (ended p ∷ did) ts g now
  ended_on did ts g p now x = record {
    held = x.held;
    stands = record { passes = x.stands.passes; less = λ e. (if_true (p == g) (is_ended g did) (x.stands.less e).0, (x.stands.less e).1); off = x.stands.off };
    here = x.here;
    fresh = x.fresh;
  }

  pub came_on : (did : List Event) (ts : List (Taken (M × A))) (g : ℕ) (now : Option (List ℕ)) → On did ts g now → On (came ∷ did) ts g now
  came_on did ts g now x = record {
    held = x.held;
    stands = record { passes = x.stands.passes; less = x.stands.less; off = x.stands.off };
    here = x.here;
    fresh = λ (e : arrivals did + 1 ≤ g). x.fresh (omega (arith, e));
  }

  -- nothing more is held of it here
  pub leaves : (did : List Event) (ts : List (Taken (M × A))) (g : ℕ) (now : Option (List ℕ)) → On did ts g now → On did ts g None
  leaves did ts g now x = record {
    held = x.held;
    stands = x.stands;
    here = tt;
    fresh = λ e. ((x.fresh e).0, refl, (x.fresh e).2, (x.fresh e).3);
  }

  -- ---- a peer that came ----

  pub begins : (did : List Event) (ts : List (Taken (M × A))) (g : ℕ) (now : Option (List ℕ)) → g ≡ arrivals did → On did ts g now → On (came ∷ did) ts g (Some [])
  begins did ts g now next x =
      let f = x.fresh (omega (arith, next)) in
      let none : x.held ≡ [] = front_none _ x.held (sym f.0 ∙ x.stands.passes.got_is) in
      record {
        held = [];
        stands = record {
          passes = record { got_is = x.stands.passes.got_is ∙ ap (λ (h : List ℕ). frames (λ (e : M × A). frame e.0) (of g ts) ++ h) none; sent_is = x.stands.passes.sent_is };
          less = λ (e : is_finished g did ≡ true). absurd (cc (e, f.2));
          off = λ (e : is_dismissed g did ≡ true). absurd (cc (e, f.3));
        };
        here = (refl, f.2, f.3);
        fresh = λ (e : arrivals did + 1 ≤ g). absurd (omega (arith, e, next));
      }

  -- ---- bytes of a peer ----

  not_fresh : (did : List Event) (ts : List (Taken (M × A))) (g : ℕ) (h : List ℕ) → On did ts g (Some h) → arrivals did ≤ g → ⊥
  not_fresh did ts g h x e = (let f = (x.fresh e).1 in absurd cc)

  pub feeds : (did : List Event) (ts : List (Taken (M × A))) (g : ℕ) (h more : List ℕ) → On did ts g (Some h) → On (read g more ∷ did) ts g (Some (h ++ more))
  feeds did ts g h more x = record {
    held = h ++ more;
    stands = record {
      passes = record {
        got_is =
            ap (λ (b : Bool). if b then read_of g did ++ more else read_of g did) (same_self g)
            ∙ ap (λ (l : List ℕ). l ++ more) (x.stands.passes.got_is ∙ ap (λ (k : List ℕ). frames (λ (e : M × A). frame e.0) (of g ts) ++ k) (sym x.here.0))
            ∙ append_assoc (frames (λ (e : M × A). frame e.0) (of g ts)) h more;
        sent_is = x.stands.passes.sent_is;
      };
      less = λ (e : is_finished g did ≡ true). absurd (cc (e, x.here.1));
      off = λ (e : is_dismissed g did ≡ true). absurd (cc (e, x.here.2));
    };
    here = (refl, x.here.1, x.here.2);
    fresh = λ (e : arrivals did ≤ g). absurd (not_fresh did ts g h x e);
  }

  pub feeds_other : (did : List Event) (ts : List (Taken (M × A))) (g p : ℕ) (more : List ℕ) (now : Option (List ℕ)) → g ≢ p → On did ts g now → On (read p more ∷ did) ts g now
  feeds_other did ts g p more now other x =
      let same : read_of g (read p more ∷ did) ≡ read_of g did = ap (λ (b : Bool). if b then read_of g did ++ more else read_of g did) (not_same g p other) in
      record {
        held = x.held;
        stands = record { passes = record { got_is = same ∙ x.stands.passes.got_is; sent_is = x.stands.passes.sent_is }; less = x.stands.less; off = x.stands.off };
        here = x.here;
        fresh = λ (e : arrivals did ≤ g). (same ∙ (x.fresh e).0, (x.fresh e).1, (x.fresh e).2, (x.fresh e).3);
      }

  -- ---- a frame that was taken and answered ----

  pub takes : (did : List Event) (ts : List (Taken (M × A))) (g : ℕ) (m : M) (a : A) (rest : List ℕ) → On did ts g (Some (frame m ++ rest)) → On (said g (bytes a) ∷ did) (ts ++ (g, (m, a)) ∷ []) g (Some rest)
  takes did ts g m a rest x = record {
    held = rest;
    stands = record {
      passes = record {
        got_is =
            x.stands.passes.got_is ∙ ap (λ (k : List ℕ). frames (λ (e : M × A). frame e.0) (of g ts) ++ k) (sym x.here.0)
            ∙ sym (append_assoc (frames (λ (e : M × A). frame e.0) (of g ts)) (frame m) rest)
            ∙ ap (λ (l : List ℕ). l ++ rest) (sym (frames_push (λ (e : M × A). frame e.0) (m, a) (of g ts)))
            ∙ ap (λ (es : List (M × A)). frames (λ (e : M × A). frame e.0) es ++ rest) (sym (of_same g (m, a) ts));
        sent_is =
            ap (λ (b : Bool). if b then said_to g did ++ bytes a else said_to g did) (same_self g)
            ∙ ap (λ (l : List ℕ). l ++ bytes a) x.stands.passes.sent_is
            ∙ sym (frames_push (λ (e : M × A). bytes e.1) (m, a) (of g ts))
            ∙ ap (frames (λ (e : M × A). bytes e.1)) (sym (of_same g (m, a) ts));
      };
      less = λ (e : is_finished g did ≡ true). absurd (cc (e, x.here.1));
      off = λ (e : is_dismissed g did ≡ true). absurd (cc (e, x.here.2));
    };
    here = (refl, x.here.1, x.here.2);
    fresh = λ (e : arrivals did ≤ g). absurd (not_fresh did ts g (frame m ++ rest) x e);
  }

  pub takes_other : (did : List Event) (ts : List (Taken (M × A))) (g p : ℕ) (m : M) (a : A) (now : Option (List ℕ)) → g ≢ p → On did ts g now → On (said p (bytes a) ∷ did) (ts ++ (p, (m, a)) ∷ []) g now
  takes_other did ts g p m a now other x =
      let same : said_to g (said p (bytes a) ∷ did) ≡ said_to g did = ap (λ (b : Bool). if b then said_to g did ++ bytes a else said_to g did) (not_same g p other) in
      record {
        held = x.held;
        stands = record {
          passes = record {
            got_is = x.stands.passes.got_is ∙ ap (λ (es : List (M × A)). frames (λ (e : M × A). frame e.0) es ++ x.held) (sym (of_other g p (m, a) ts other));
            sent_is = same ∙ x.stands.passes.sent_is ∙ ap (frames (λ (e : M × A). bytes e.1)) (sym (of_other g p (m, a) ts other));
          };
          less = x.stands.less;
          off = x.stands.off;
        };
        here = x.here;
        fresh = x.fresh;
      }

  -- ---- a peer goes ----

  pub finishes : (did : List Event) (ts : List (Taken (M × A))) (g : ℕ) (h : List ℕ) → waits h → On did ts g (Some h) → On (finished g ∷ ended g ∷ did) ts g None
  finishes did ts g h short x = record {
    held = h;
    stands = record {
      passes = record { got_is = x.stands.passes.got_is ∙ ap (λ (k : List ℕ). frames (λ (e : M × A). frame e.0) (of g ts) ++ k) (sym x.here.0); sent_is = x.stands.passes.sent_is };
      less = λ _. (ap (λ (b : Bool). if b then true else is_ended g did) (same_self g), short);
      off = λ (e : is_dismissed g did ≡ true). absurd (cc (e, x.here.2));
    };
    here = tt;
    fresh = λ (e : arrivals did ≤ g). absurd (not_fresh did ts g h x e);
  }

  pub finishes_other : (did : List Event) (ts : List (Taken (M × A))) (g p : ℕ) (now : Option (List ℕ)) → g ≢ p → On did ts g now → On (finished p ∷ ended p ∷ did) ts g now
  finishes_other did ts g p now other x =
      let same : is_finished g (finished p ∷ did) ≡ is_finished g did = ap (λ (b : Bool). if b then true else is_finished g did) (not_same g p other) in
      record {
        held = x.held;
        stands = record {
          passes = x.stands.passes;
          less = λ e. (if_true (p == g) (is_ended g did) (x.stands.less (sym same ∙ e)).0, (x.stands.less (sym same ∙ e)).1);
          off = x.stands.off;
        };
        here = maybe now (λ h. (h ≡ x.held) × (is_finished g did ≡ false) × (is_dismissed g did ≡ false)) _ (λ h k. (k.0, same ∙ k.1, k.2)) x.here;
        fresh = λ (e : arrivals did ≤ g). ((x.fresh e).0, (x.fresh e).1, same ∙ (x.fresh e).2, (x.fresh e).3);
      }

  pub dismisses : (did : List Event) (ts : List (Taken (M × A))) (g : ℕ) (h : List ℕ) → refused h → On did ts g (Some h) → On (dismissed g ∷ did) ts g None
  dismisses did ts g h none x = record {
    held = h;
    stands = record {
      passes = record { got_is = x.stands.passes.got_is ∙ ap (λ (k : List ℕ). frames (λ (e : M × A). frame e.0) (of g ts) ++ k) (sym x.here.0); sent_is = x.stands.passes.sent_is };
      less = λ (e : is_finished g did ≡ true). absurd (cc (e, x.here.1));
      off = λ _. none;
    };
    here = tt;
    fresh = λ (e : arrivals did ≤ g). absurd (not_fresh did ts g h x e);
  }

  pub dismisses_other : (did : List Event) (ts : List (Taken (M × A))) (g p : ℕ) (now : Option (List ℕ)) → g ≢ p → On did ts g now → On (dismissed p ∷ did) ts g now
  dismisses_other did ts g p now other x =
      let same : is_dismissed g (dismissed p ∷ did) ≡ is_dismissed g did = ap (λ (b : Bool). if b then true else is_dismissed g did) (not_same g p other) in
      record {
        held = x.held;
        stands = record { passes = x.stands.passes; less = x.stands.less; off = λ e. x.stands.off (sym same ∙ e) };
        here = maybe now (λ h. (h ≡ x.held) × (is_finished g did ≡ false) × (is_dismissed g did ≡ false)) _ (λ h k. (k.0, k.1, same ∙ k.2)) x.here;
        fresh = λ (e : arrivals did ≤ g). ((x.fresh e).0, (x.fresh e).1, (x.fresh e).2, same ∙ (x.fresh e).3);
      }

  -- ---- all peers at once, of whom one is served ----

  abbrev AllOn : List Event → List (Taken (M × A)) → (ℕ → Option (List ℕ)) → Type 0
  AllOn did ts now = GoOn frame bytes waits refused did ts now

  pub alike : (did : List Event) (ts : List (Taken (M × A))) (now new : ℕ → Option (List ℕ)) → ((g : ℕ) → new g ≡ now g) → AllOn did ts now → AllOn did ts new
  alike did ts now new same x g = subst (λ (o : Option (List ℕ)). On did ts g o) (sym (same g)) (x g)

  each : (did new : List Event) (ts more : List (Taken (M × A))) (p : ℕ) (o q : Option (List ℕ)) (now : ℕ → Option (List ℕ))
      → (On did ts p o → On new more p q) → ((g : ℕ) → g ≢ p → (n : Option (List ℕ)) → On did ts g n → On new more g n)
      → AllOn did ts (put p o now) → AllOn new more (put p q now)
  each did new ts more p o q now own others x g = ⊎_elim
      (λ (e : g ≡ p). subst (λ (k : ℕ). On new more k (put p q now k)) (sym e) (subst (λ (n : Option (List ℕ)). On new more p n) (sym (put_same p q now))
      (own (subst (λ (n : Option (List ℕ)). On did ts p n) (put_same p o now) (x p)))))
      (λ (ne : g ≢ p). subst (λ (n : Option (List ℕ)). On new more g n) (sym (put_other g p q now ne))
      (others g ne (now g) (subst (λ (n : Option (List ℕ)). On did ts g n) (put_other g p o now ne) (x g))))
      (cases_eq g p)

  pub feed_all : (did : List Event) (ts : List (Taken (M × A))) (p : ℕ) (h more : List ℕ) (now : ℕ → Option (List ℕ)) → AllOn did ts (put p (Some h) now) → AllOn (read p more ∷ did) ts (put p (Some (h ++ more)) now)
  feed_all did ts p h more now = each did (read p more ∷ did) ts ts p (Some h) (Some (h ++ more)) now (feeds did ts p h more) (λ g ne n. feeds_other did ts g p more n ne)

  pub take_all_of : (did : List Event) (ts : List (Taken (M × A))) (p : ℕ) (m : M) (a : A) (rest : List ℕ) (now : ℕ → Option (List ℕ))
      → AllOn did ts (put p (Some (frame m ++ rest)) now) → AllOn (said p (bytes a) ∷ did) (ts ++ (p, (m, a)) ∷ []) (put p (Some rest) now)
  take_all_of did ts p m a rest now = each did (said p (bytes a) ∷ did) ts (ts ++ (p, (m, a)) ∷ []) p (Some (frame m ++ rest)) (Some rest) now (takes did ts p m a rest) (λ g ne n. takes_other did ts g p m a n ne)

  pub finish_all : (did : List Event) (ts : List (Taken (M × A))) (p : ℕ) (h : List ℕ) (now : ℕ → Option (List ℕ)) → waits h → AllOn did ts (put p (Some h) now) → AllOn (finished p ∷ ended p ∷ did) ts (put p None now)
  finish_all did ts p h now short = each did (finished p ∷ ended p ∷ did) ts ts p (Some h) None now (finishes did ts p h short) (λ g ne n. finishes_other did ts g p n ne)

  pub dismiss_all : (did : List Event) (ts : List (Taken (M × A))) (p : ℕ) (h : List ℕ) (now : ℕ → Option (List ℕ)) → refused h → AllOn did ts (put p (Some h) now) → AllOn (dismissed p ∷ did) ts (put p None now)
  dismiss_all did ts p h now none = each did (dismissed p ∷ did) ts ts p (Some h) None now (dismisses did ts p h none) (λ g ne n. dismisses_other did ts g p n ne)

  -- one that came is served
  pub begin_all : (did : List Event) (ts : List (Taken (M × A))) (p : ℕ) (now : ℕ → Option (List ℕ)) → p ≡ arrivals did → AllOn did ts now → AllOn (came ∷ did) ts (put p (Some []) now)
  begin_all did ts p now next x g = ⊎_elim
      (λ (e : g ≡ p). subst (λ (k : ℕ). On (came ∷ did) ts k (put p (Some []) now k)) (sym e) (subst (λ (n : Option (List ℕ)). On (came ∷ did) ts p n) (sym (put_same p (Some []) now)) (begins did ts p (now p) next (x p))))
      (λ (ne : g ≢ p). subst (λ (n : Option (List ℕ)). On (came ∷ did) ts g n) (sym (put_other g p (Some []) now ne)) (came_on did ts g (now g) (x g)))
      (cases_eq g p)

  -- one isn't served any more
  pub leave_all : (did : List Event) (ts : List (Taken (M × A))) (p : ℕ) (now : ℕ → Option (List ℕ)) → AllOn did ts now → AllOn did ts (put p None now)
  leave_all did ts p now x g = ⊎_elim
      (λ (e : g ≡ p). subst (λ (k : ℕ). On did ts k (put p None now k)) (sym e) (subst (λ (n : Option (List ℕ)). On did ts p n) (sym (put_same p None now)) (leaves did ts p (now p) (x p))))
      (λ (ne : g ≢ p). subst (λ (n : Option (List ℕ)). On did ts g n) (sym (put_other g p None now ne)) (x g))
      (cases_eq g p)

  -- each peer, whatever is still held
  pub all_with : (did : List Event) (ts : List (Taken (M × A))) (now : ℕ → Option (List ℕ)) → AllOn did ts now → AreWith frame bytes waits refused did ts
  all_with did ts now x g = ((x g).held, (x g).stands)

  -- at first
  pub none_yet : (g : ℕ) → On [] [] g None
  none_yet g = record {
    held = [];
    stands = record { passes = record { got_is = refl; sent_is = refl }; less = λ (e : false ≡ true). absurd cc; off = λ (e : false ≡ true). absurd cc };
    here = tt;
    fresh = λ _. (refl, refl, refl, refl);
  }

-- ---- steps ----

module _ {S M A : Type 0} (after : S → M → S) (answers : S → M → A) where
  pub steps_more : (s : S) (ts : List (Taken (M × A))) (now : S) (g : ℕ) (m : M) (a : A) → AreSteps after answers s ts now → a ≡ answers now m → AreSteps after answers s (ts ++ (g, (m, a)) ∷ []) (after now m)
  steps_more s [] now g m a x e = (e ∙ ap (λ (t : S). answers t m) x, ap (λ (t : S). after t m) x)
  steps_more s (t ∷ ts) now g m a x e = (x.0, steps_more (after s t.1.0) ts now g m a x.1 e)

  pub steps_after : (s : S) (ts : List (Taken (M × A))) (now : S) → AreSteps after answers s ts now → now ≡ after_taken after s (plain ts)
  steps_after s [] now x = x
  steps_after s (t ∷ ts) now x = steps_after (after s t.1.0) ts now x.1

  module _ (frame : M → List ℕ) (bytes : A → List ℕ) where
    abbrev said_by : S → M → List ℕ
    said_by s m = bytes (answers s m)

    if_frames : (b : Bool) (es : List (M × A)) (e : M × A) (ms : List M) → frames (λ (e : M × A). frame e.0) es ≡ frames frame ms
        → frames (λ (e : M × A). frame e.0) (if b then e ∷ es else es) ≡ frames frame (if b then e.0 ∷ ms else ms)
    if_frames true es e ms same = ap (λ (l : List ℕ). frame e.0 ++ l) same
    if_frames false es e ms same = same

    pub frames_plain : (g : ℕ) (ts : List (Taken (M × A))) → frames (λ (e : M × A). frame e.0) (of g ts) ≡ frames frame (of g (plain ts))
    frames_plain g [] = refl
    frames_plain g (t ∷ ts) = if_frames (t.0 == g) (of g ts) t.1 (of g (plain ts)) (frames_plain g ts)

    if_answers : (b : Bool) (es : List (M × A)) (e : M × A) (a l : List ℕ) → bytes e.1 ≡ a → frames (λ (e : M × A). bytes e.1) es ≡ l
        → frames (λ (e : M × A). bytes e.1) (if b then e ∷ es else es) ≡ (if b then a ++ l else l)
    if_answers true es e a l first same = ap (λ (k : List ℕ). k ++ frames (λ (e : M × A). bytes e.1) es) first ∙ ap (λ (k : List ℕ). a ++ k) same
    if_answers false es e a l first same = same

    pub answered_plain : (g : ℕ) (s : S) (ts : List (Taken (M × A))) (now : S) → AreSteps after answers s ts now → frames (λ (e : M × A). bytes e.1) (of g ts) ≡ answered after said_by g s (plain ts)
    answered_plain g s [] now x = refl
    answered_plain g s (t ∷ ts) now x = if_answers (t.0 == g) (of g ts) t.1 (said_by s t.1.0) _ (ap bytes x.0) (answered_plain g (after s t.1.0) ts now x.1)

    -- the talk with a peer, where each frame was a step
    pub talk_of : (g : ℕ) (s : S) (ts : List (Taken (M × A))) (now : S) (got sent held : List ℕ) → AreSteps after answers s ts now → Passes frame bytes ts g got sent held
        → IsTalk after said_by frame g s (plain ts) got sent held
    talk_of g s ts now got sent held steps x = record {
      got_is = x.got_is ∙ ap (λ (l : List ℕ). l ++ held) (frames_plain g ts);
      sent_is = x.sent_is ∙ answered_plain g s ts now steps;
    }
