-- How a course grows by one frame, and what it is where the frames of each peer stand together.
use Rattle.std.proofs.Common.{◌≡◌, ◌≢◌, ℕ, ◌+◌, ◌<◌, List, [], ◌∷◌, ◌++◌, length, refl, sym, ◌∙◌, ap, arith, append_assoc, append-nil}
use Rattle.std.specs.Prelude.{Bool, true, false, ◌==◌, if◌then◌else◌}
use Rattle.ld_crowd.specs.Course.{Taken, frames, after_taken, of, answered, IsTalk, all_of, after_all, answers_all, in_turn, after_peers}

pub same_self : (g : ℕ) → (g == g) ≡ true
same_self g = grind arith

pub not_same : (g h : ℕ) → g ≢ h → (h == g) ≡ false
not_same g h other = grind arith

module _ {M : Type 0} where
  -- ---- what was taken of a peer ----

  step_of : (b : Bool) (x m : M) (l k : List M) → l ≡ k ++ m ∷ [] → (if b then x ∷ l else l) ≡ (if b then x ∷ k else k) ++ m ∷ []
  step_of true x m l k e = ap (λ (l : List M). x ∷ l) e
  step_of false x m l k e = e

  pub of_same : (g : ℕ) (m : M) (ts : List (Taken M)) → of g (ts ++ (g, m) ∷ []) ≡ of g ts ++ m ∷ []
  of_same g m [] = ap (λ (b : Bool). if b then m ∷ [] else []) (same_self g)
  of_same g m (t ∷ ts) = step_of (t.0 == g) t.1 m _ _ (of_same g m ts)

  step_other : (b : Bool) (x : M) (l k : List M) → l ≡ k → (if b then x ∷ l else l) ≡ (if b then x ∷ k else k)
  step_other true x l k e = ap (λ (l : List M). x ∷ l) e
  step_other false x l k e = e

  pub of_other : (g h : ℕ) (m : M) (ts : List (Taken M)) → g ≢ h → of g (ts ++ (h, m) ∷ []) ≡ of g ts
  of_other g h m [] other = ap (λ (b : Bool). if b then m ∷ [] else []) (not_same g h other)
  of_other g h m (t ∷ ts) other = step_other (t.0 == g) t.1 _ _ (of_other g h m ts other)

  of_past : (g h : ℕ) (ms : List M) (ts : List (Taken M)) → g ≢ h → of g (all_of h ms ++ ts) ≡ of g ts
  of_past g h [] ts other = refl
  of_past g h (m ∷ ms) ts other =
      ap (λ (b : Bool). if b then m ∷ of g (all_of h ms ++ ts) else of g (all_of h ms ++ ts)) (not_same g h other) ∙ of_past g h ms ts other

  of_none : (g h : ℕ) (peers : List (List M)) → g < h → of g (in_turn h peers) ≡ []
  of_none g h [] later = refl
  of_none g h (ms ∷ more) later = of_past g h ms (in_turn (1 + h) more) (λ e. omega (arith, later, e)) ∙ of_none g (1 + h) more (omega (arith, later))

  of_own : (g : ℕ) (ms : List M) (ts : List (Taken M)) → of g (all_of g ms ++ ts) ≡ ms ++ of g ts
  of_own g [] ts = refl
  of_own g (m ∷ ms) ts =
      ap (λ (b : Bool). if b then m ∷ of g (all_of g ms ++ ts) else of g (all_of g ms ++ ts)) (same_self g) ∙ ap (λ (l : List M). m ∷ l) (of_own g ms ts)

  -- the peer behind those
  pub in_turn_heard : (k g : ℕ) (before : List (List M)) (ms : List M) (more : List (List M)) → k ≡ g + length before → of k (in_turn g (before ++ ms ∷ more)) ≡ ms
  in_turn_heard k g [] ms more is =
      (let e : k ≡ g = omega (arith, is) in ap (λ (j : ℕ). of j (in_turn g (ms ∷ more))) e
      ∙ of_own g ms (in_turn (1 + g) more) ∙ ap (λ (l : List M). ms ++ l) (of_none g (1 + g) more (omega arith)) ∙ append-nil ms)
  in_turn_heard k g (b ∷ before) ms more is =
      of_past k g b (in_turn (1 + g) (before ++ ms ∷ more)) (λ e. omega (arith, is, e)) ∙ in_turn_heard k (1 + g) before ms more (omega (arith, is))

module _ {M : Type 0} (frame : M → List ℕ) where
  pub frames_push : (m : M) (ms : List M) → frames frame (ms ++ m ∷ []) ≡ frames frame ms ++ frame m
  frames_push m [] = append-nil (frame m)
  frames_push m (x ∷ ms) = ap (λ (l : List ℕ). frame x ++ l) (frames_push m ms) ∙ sym (append_assoc (frame x) (frames frame ms) (frame m))

module _ {S M : Type 0} (after : S → M → S) where
  -- ---- states ----

  pub after_append : (s : S) (xs ys : List (Taken M)) → after_taken after s (xs ++ ys) ≡ after_taken after (after_taken after s xs) ys
  after_append s [] ys = refl
  after_append s (x ∷ xs) ys = after_append (after s x.1) xs ys

  after_all_of : (g : ℕ) (s : S) (ms : List M) → after_taken after s (all_of g ms) ≡ after_all after s ms
  after_all_of g s [] = refl
  after_all_of g s (m ∷ ms) = after_all_of g (after s m) ms

  pub in_turn_state : (g : ℕ) (s : S) (peers : List (List M)) → after_taken after s (in_turn g peers) ≡ after_peers after s peers
  in_turn_state g s [] = refl
  in_turn_state g s (ms ∷ more) =
      after_append s (all_of g ms) (in_turn (1 + g) more)
      ∙ ap (λ (t : S). after_taken after t (in_turn (1 + g) more)) (after_all_of g s ms)
      ∙ in_turn_state (1 + g) (after_all after s ms) more

module _ {S M : Type 0} (after : S → M → S) (answers : S → M → List ℕ) where
  -- ---- answers ----

  step_answers : (b : Bool) (x l k a : List ℕ) → l ≡ k ++ a → (if b then x ++ l else l) ≡ (if b then x ++ k else k) ++ a
  step_answers true x l k a e = ap (λ (l : List ℕ). x ++ l) e ∙ sym (append_assoc x k a)
  step_answers false x l k a e = e

  pub answered_same : (g : ℕ) (m : M) (s : S) (ts : List (Taken M)) → answered after answers g s (ts ++ (g, m) ∷ []) ≡ answered after answers g s ts ++ answers (after_taken after s ts) m
  answered_same g m s [] = ap (λ (b : Bool). if b then answers s m ++ [] else []) (same_self g) ∙ append-nil (answers s m)
  answered_same g m s (t ∷ ts) = step_answers (t.0 == g) (answers s t.1) _ _ _ (answered_same g m (after s t.1) ts)

  step_same : (b : Bool) (x l k : List ℕ) → l ≡ k → (if b then x ++ l else l) ≡ (if b then x ++ k else k)
  step_same true x l k e = ap (λ (l : List ℕ). x ++ l) e
  step_same false x l k e = e

  pub answered_other : (g h : ℕ) (m : M) (s : S) (ts : List (Taken M)) → g ≢ h → answered after answers g s (ts ++ (h, m) ∷ []) ≡ answered after answers g s ts
  answered_other g h m s [] other = ap (λ (b : Bool). if b then answers s m ++ [] else []) (not_same g h other)
  answered_other g h m s (t ∷ ts) other = step_same (t.0 == g) (answers s t.1) _ _ (answered_other g h m (after s t.1) ts other)

  answered_past : (g h : ℕ) (s : S) (ms : List M) (ts : List (Taken M)) → g ≢ h
      → answered after answers g s (all_of h ms ++ ts) ≡ answered after answers g (after_all after s ms) ts
  answered_past g h s [] ts other = refl
  answered_past g h s (m ∷ ms) ts other =
      ap (λ (b : Bool). if b then answers s m ++ answered after answers g (after s m) (all_of h ms ++ ts) else answered after answers g (after s m) (all_of h ms ++ ts)) (not_same g h other)
      ∙ answered_past g h (after s m) ms ts other

  answered_none : (g h : ℕ) (s : S) (peers : List (List M)) → g < h → answered after answers g s (in_turn h peers) ≡ []
  answered_none g h s [] later = refl
  answered_none g h s (ms ∷ more) later =
      answered_past g h s ms (in_turn (1 + h) more) (λ e. omega (arith, later, e))
      ∙ answered_none g (1 + h) (after_all after s ms) more (omega (arith, later))

  answered_own : (g : ℕ) (s : S) (ms : List M) (ts : List (Taken M))
      → answered after answers g s (all_of g ms ++ ts) ≡ answers_all after answers s ms ++ answered after answers g (after_all after s ms) ts
  answered_own g s [] ts = refl
  answered_own g s (m ∷ ms) ts =
      ap (λ (b : Bool). if b then answers s m ++ answered after answers g (after s m) (all_of g ms ++ ts) else answered after answers g (after s m) (all_of g ms ++ ts)) (same_self g)
      ∙ ap (λ (l : List ℕ). answers s m ++ l) (answered_own g (after s m) ms ts)
      ∙ sym (append_assoc (answers s m) (answers_all after answers (after s m) ms) (answered after answers g (after_all after s (m ∷ ms)) ts))

  -- the peer behind those
  pub in_turn_said : (k g : ℕ) (s : S) (before : List (List M)) (ms : List M) (more : List (List M)) → k ≡ g + length before
      → answered after answers k s (in_turn g (before ++ ms ∷ more)) ≡ answers_all after answers (after_peers after s before) ms
  in_turn_said k g s [] ms more is =
      (let e : k ≡ g = omega (arith, is) in ap (λ (j : ℕ). answered after answers j s (in_turn g (ms ∷ more))) e
      ∙ answered_own g s ms (in_turn (1 + g) more)
      ∙ ap (λ (l : List ℕ). answers_all after answers s ms ++ l) (answered_none g (1 + g) (after_all after s ms) more (omega arith))
      ∙ append-nil (answers_all after answers s ms))
  in_turn_said k g s (b ∷ before) ms more is =
      answered_past k g s b (in_turn (1 + g) (before ++ ms ∷ more)) (λ e. omega (arith, is, e))
      ∙ in_turn_said k (1 + g) (after_all after s b) before ms more (omega (arith, is))

module _ {S M : Type 0} (after : S → M → S) (answers : S → M → List ℕ) (frame : M → List ℕ) where
  -- ---- one frame more ----

  pub talk_more : (g : ℕ) (m : M) (s : S) (ts : List (Taken M)) (got sent rest : List ℕ) → IsTalk after answers frame g s ts got sent (frame m ++ rest)
      → IsTalk after answers frame g s (ts ++ (g, m) ∷ []) got (sent ++ answers (after_taken after s ts) m) rest
  talk_more g m s ts got sent rest talk = record {
    got_is =
        talk.got_is
        ∙ sym (append_assoc (frames frame (of g ts)) (frame m) rest)
        ∙ ap (λ (l : List ℕ). l ++ rest) (sym (frames_push frame m (of g ts)))
        ∙ ap (λ (ms : List M). frames frame ms ++ rest) (sym (of_same g m ts));
    sent_is = ap (λ (l : List ℕ). l ++ answers (after_taken after s ts) m) talk.sent_is ∙ sym (answered_same after answers g m s ts);
  }

  pub talk_stays : (g h : ℕ) (m : M) (s : S) (ts : List (Taken M)) (got sent held : List ℕ) → g ≢ h → IsTalk after answers frame g s ts got sent held
      → IsTalk after answers frame g s (ts ++ (h, m) ∷ []) got sent held
  talk_stays g h m s ts got sent held other talk = record {
    got_is = talk.got_is ∙ ap (λ (ms : List M). frames frame ms ++ held) (sym (of_other g h m ts other));
    sent_is = talk.sent_is ∙ sym (answered_other after answers g h m s ts other);
  }
