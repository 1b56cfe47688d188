-- Rows of changes, and the contents that they lead to.
use Rattle.std.proofs.Common.{◌≡◌, ◌<◌, ◌+◌, ◌^◌, inl, inr, ℕ, Bool, List, [], ◌∷◌, ◌++◌, Option, Some, length, get_or, take, drop, refl, ap, sym, ◌∙◌, subst, arith, length-append}
use Rattle.std.proofs.lemmas.List.{drop_at}
use Rattle.std.proofs.Math.Seq.{get_or-append_seam}
use Rattle.ld_journal.proofs.Records.{records-push}
use Rattle.ld_journal.specs.Open.{HasGiven, IsSettled}
use Rattle.ld_journal.specs.declared.journal.Journal.{Journal}
use Rattle.ld_journal.specs.Format.{framed, records, Fits, IsCutShort}
use Rattle.ld_ids.specs.Id.{IsLog}
use Rattle.ld_msg.specs.declared.msg.Summary.{Summary}
use Rattle.ld_msg.specs.Bounds.{IsEpoch, IsSummary}
use Rattle.ld_msg.specs.Register.{Register, empty_register, record_length}
use Rattle.ld_register.specs.declared.change.Change.{Change}
use Rattle.ld_register.specs.declared.change.Change.TheVariants as changes
use Rattle.ld_register.specs.Changes.{change_bytes, closing_bytes, IsChange, IsBody, IsNext, Leads, is_next, changed, body_length}
use Rattle.ld_register.specs.Kept.{Kept, register_of}
use Rattle.ld_register.specs.Stands.{IsDamaged, HasReplayed, IsReplayed}
use Rattle.ld_register.proofs.Bytes.{same_word, same_long, same_flag, same_activation}

-- ---- one change a body ----

first_same : (a b : ℕ) (xs ys : List ℕ) → a ∷ xs ≡ b ∷ ys → (a ≡ b) × (xs ≡ ys)
first_same a b xs ys e = (ap (λ l. get_or l 0 0) e, ap (λ l. drop 1 l) e)

same_summary : (y z : Summary) → y.ballot ≡ z.ballot → y.lng ≡ z.lng → y.trim ≡ z.trim → y.end ≡ z.end → y.loss ≡ z.loss → y ≡ z
same_summary y z a b c d e = ap (λ n. record { ballot = n; lng = y.lng; trim = y.trim; end = y.end; loss = y.loss }) a ∙ (ap (λ n. record { ballot = z.ballot; lng = n; trim = y.trim; end = y.end; loss = y.loss }) b
    ∙ (ap (λ n. record { ballot = z.ballot; lng = z.lng; trim = n; end = y.end; loss = y.loss }) c ∙ (ap (λ n. record { ballot = z.ballot; lng = z.lng; trim = z.trim; end = n; loss = y.loss }) d
    ∙ ap (λ (b : Bool). record { ballot = z.ballot; lng = z.lng; trim = z.trim; end = z.end; loss = b }) e)))

-- two closes with the same bytes, but for whether anything is lost
same_closing : (l m e f : ℕ) (y z : Summary) → IsLog l → IsLog m → IsEpoch e → IsEpoch f → IsSummary e y → IsSummary f z → closing_bytes l e y ≡ closing_bytes m f z → y.loss ≡ z.loss → (l ≡ m) × (e ≡ f) × (y ≡ z)
same_closing l m e f y z i j p q s t h loss = (
  (let a = i.1 in let b = j.1 in same_word l m (omega arith) (omega arith) (ap (λ b. take 4 b) h)),
  (let a = p.1 in let b = q.1 in same_word e f (omega arith) (omega arith) (ap (λ b. take 4 (drop 4 b)) h)),
  same_summary y z
      (let a = s.ballot_most in let b = t.ballot_most in same_word y.ballot z.ballot (omega arith) (omega arith) (ap (λ b. take 4 (drop 8 b)) h))
      (let a = s.lng in let b = t.lng in same_word y.lng z.lng (omega arith) (omega arith) (ap (λ b. take 4 (drop 12 b)) h))
      (same_long y.trim z.trim s.trim t.trim (ap (λ b. take 8 (drop 16 b)) h))
      (let a = s.end_most in let b = t.end_most in same_word y.end z.end (omega arith) (omega arith) (ap (λ b. take 4 (drop 24 b)) h))
      loss,
)

pub same_change : (x y : Change) → IsChange x → IsChange y → change_bytes x ≡ change_bytes y → x ≡ y
unfolding change_bytes
same_change (changes.Activate e s) (changes.Activate f t) i j h =
    let p = i.0.1 in let q = j.0.1 in let l = i.1.log.1 in let m = j.1.log.1 in
    let same = same_activation e f s t (omega arith) (omega arith) (omega arith) (omega arith) i.1.set j.1.set h in
    ap (λ n. changes.Activate n s) same.0 ∙ ap (λ n. changes.Activate f n) same.1
same_change (changes.Unfixed l e) (changes.Unfixed m f) i j h =
    let a : l ≡ m = (let p = i.0.1 in let q = j.0.1 in same_word l m (omega arith) (omega arith) (ap (λ b. take 4 (drop 1 b)) h)) in
    let b : e ≡ f = (let p = i.1.1 in let q = j.1.1 in same_word e f (omega arith) (omega arith) (ap (λ b. take 4 (drop 5 b)) h)) in
    ap (λ n. changes.Unfixed n e) a ∙ ap (λ n. changes.Unfixed m n) b
same_change (changes.Close l e y) (changes.Close m f z) i j h =
    let s = same_closing l m e f y z i.0 j.0 i.1 j.1 i.2 j.2 (ap (λ b. take 28 (drop 1 b)) h) (same_flag y.loss z.loss (ap (λ b. get_or b 29 0) h)) in
    ap (λ n. changes.Close n e y) s.0 ∙ (ap (λ n. changes.Close m n y) s.1 ∙ ap (λ n. changes.Close m f n) s.2)
same_change (changes.Lossless l e y) (changes.Lossless m f z) i j h =
    let s = same_closing l m e f y z i.0 j.0 i.1 j.1 i.2 j.2 (ap (λ b. drop 1 b) h) (i.3 ∙ sym j.3) in
    ap (λ n. changes.Lossless n e y) s.0 ∙ (ap (λ n. changes.Lossless m n y) s.1 ∙ ap (λ n. changes.Lossless m f n) s.2)
same_change (changes.Draw n g) (changes.Draw m k) i j h = ap (λ a. changes.Draw a g) (ap (λ b. get_or b 1 0) h) ∙ ap (λ a. changes.Draw m a) (same_word g k i.1 j.1 (ap (λ b. take 4 (drop 2 b)) h))
same_change (changes.Activate e s) (changes.Unfixed m f) i j h = absurd (omega (arith, ap (λ b. get_or b 0 0) h))
same_change (changes.Activate e s) (changes.Close m f z) i j h = absurd (omega (arith, ap (λ b. get_or b 0 0) h))
same_change (changes.Activate e s) (changes.Lossless m f z) i j h = absurd (omega (arith, ap (λ b. get_or b 0 0) h))
same_change (changes.Activate e s) (changes.Draw m k) i j h = absurd (omega (arith, ap (λ b. get_or b 0 0) h))
same_change (changes.Unfixed l e) (changes.Activate f t) i j h = absurd (omega (arith, ap (λ b. get_or b 0 0) h))
same_change (changes.Unfixed l e) (changes.Close m f z) i j h = absurd (omega (arith, ap (λ b. get_or b 0 0) h))
same_change (changes.Unfixed l e) (changes.Lossless m f z) i j h = absurd (omega (arith, ap (λ b. get_or b 0 0) h))
same_change (changes.Unfixed l e) (changes.Draw m k) i j h = absurd (omega (arith, ap (λ b. get_or b 0 0) h))
same_change (changes.Close l e y) (changes.Activate f t) i j h = absurd (omega (arith, ap (λ b. get_or b 0 0) h))
same_change (changes.Close l e y) (changes.Unfixed m f) i j h = absurd (omega (arith, ap (λ b. get_or b 0 0) h))
same_change (changes.Close l e y) (changes.Lossless m f z) i j h = absurd (omega (arith, ap (λ b. get_or b 0 0) h))
same_change (changes.Close l e y) (changes.Draw m k) i j h = absurd (omega (arith, ap (λ b. get_or b 0 0) h))
same_change (changes.Lossless l e y) (changes.Activate f t) i j h = absurd (omega (arith, ap (λ b. get_or b 0 0) h))
same_change (changes.Lossless l e y) (changes.Unfixed m f) i j h = absurd (omega (arith, ap (λ b. get_or b 0 0) h))
same_change (changes.Lossless l e y) (changes.Close m f z) i j h = absurd (omega (arith, ap (λ b. get_or b 0 0) h))
same_change (changes.Lossless l e y) (changes.Draw m k) i j h = absurd (omega (arith, ap (λ b. get_or b 0 0) h))
same_change (changes.Draw n g) (changes.Activate f t) i j h = absurd (omega (arith, ap (λ b. get_or b 0 0) h))
same_change (changes.Draw n g) (changes.Unfixed m f) i j h = absurd (omega (arith, ap (λ b. get_or b 0 0) h))
same_change (changes.Draw n g) (changes.Close m f z) i j h = absurd (omega (arith, ap (λ b. get_or b 0 0) h))
same_change (changes.Draw n g) (changes.Lossless m f z) i j h = absurd (omega (arith, ap (λ b. get_or b 0 0) h))
same_change (changes.Swap l t o n) (changes.Swap m u p q) i j h =
    let a : l ≡ m = (let x = i.0.1 in let y = j.0.1 in same_word l m (omega arith) (omega arith) (ap (λ b. take 4 (drop 1 b)) h)) in
    let b : t ≡ u = same_word t u i.1 j.1 (ap (λ b. take 4 (drop 5 b)) h) in
    ap (λ x. changes.Swap x t o n) a ∙ (ap (λ x. changes.Swap m x o n) b ∙ (ap (λ x. changes.Swap m u x n) (ap (λ b. get_or b 9 0) h) ∙ ap (λ x. changes.Swap m u p x) (ap (λ b. get_or b 10 0) h)))
same_change (changes.Swap l t o n) (changes.Activate f s) i j h = absurd (omega (arith, ap (λ b. get_or b 0 0) h))
same_change (changes.Swap l t o n) (changes.Unfixed m f) i j h = absurd (omega (arith, ap (λ b. get_or b 0 0) h))
same_change (changes.Swap l t o n) (changes.Close m f z) i j h = absurd (omega (arith, ap (λ b. get_or b 0 0) h))
same_change (changes.Swap l t o n) (changes.Lossless m f z) i j h = absurd (omega (arith, ap (λ b. get_or b 0 0) h))
same_change (changes.Swap l t o n) (changes.Draw m k) i j h = absurd (omega (arith, ap (λ b. get_or b 0 0) h))
same_change (changes.Activate e s) (changes.Swap m u p q) i j h = absurd (omega (arith, ap (λ b. get_or b 0 0) h))
same_change (changes.Unfixed l e) (changes.Swap m u p q) i j h = absurd (omega (arith, ap (λ b. get_or b 0 0) h))
same_change (changes.Close l e y) (changes.Swap m u p q) i j h = absurd (omega (arith, ap (λ b. get_or b 0 0) h))
same_change (changes.Lossless l e y) (changes.Swap m u p q) i j h = absurd (omega (arith, ap (λ b. get_or b 0 0) h))
same_change (changes.Draw n g) (changes.Swap m u p q) i j h = absurd (omega (arith, ap (λ b. get_or b 0 0) h))

pub one_body : (body : List ℕ) (x y : Change) → IsBody body x → IsBody body y → x ≡ y
one_body body x y b d = same_change x y b.is d.is (sym b.bytes ∙ d.bytes)

pub length_is : (x : Change) → length (change_bytes x) ≡ body_length x
unfolding change_bytes
length_is (changes.Activate e s) = refl
length_is (changes.Unfixed l e) = refl
length_is (changes.Close l e y) = refl
length_is (changes.Lossless l e y) = refl
length_is (changes.Draw n g) = refl
length_is (changes.Swap l t o n) = refl

pub longer_by : (r : Register) (x : Change) → (changed r x).length ≡ r.length + record_length (body_length x)
longer_by r (changes.Activate e s) = refl
longer_by r (changes.Unfixed l e) = refl
longer_by r (changes.Close l e y) = refl
longer_by r (changes.Lossless l e y) = refl
longer_by r (changes.Draw n g) = refl
longer_by r (changes.Swap l t o n) = refl

pub as_armed : (r : Register) (x : Change) → (changed r x).armed ≡ r.armed
as_armed r (changes.Activate e s) = refl
as_armed r (changes.Unfixed l e) = refl
as_armed r (changes.Close l e y) = refl
as_armed r (changes.Lossless l e y) = refl
as_armed r (changes.Draw n g) = refl
as_armed r (changes.Swap l t o n) = refl

pub short : (x : Change) → body_length x < 2 ^ 32
short (changes.Activate e s) = omega arith
short (changes.Unfixed l e) = omega arith
short (changes.Close l e y) = omega arith
short (changes.Lossless l e y) = omega arith
short (changes.Draw n g) = omega arith
short (changes.Swap l t o n) = omega arith

pub next_any : (k : Kept) (n m : ℕ) (x : Change) → is_next (register_of k n) x ≡ is_next (register_of k m) x
next_any k n m (changes.Activate e s) = refl
next_any k n m (changes.Unfixed l e) = refl
next_any k n m (changes.Close l e y) = refl
next_any k n m (changes.Lossless l e y) = refl
next_any k n m (changes.Draw a g) = refl
next_any k n m (changes.Swap l t a b) = refl

-- ---- rows ----

pub leads_push : (r : Register) (bodies : List (List ℕ)) (body : List ℕ) (c : Register) (x : Change) → Leads r bodies c → IsNext c body x → Leads r (bodies ++ body ∷ []) (changed c x)
leads_push r [] body c x h n = (x, subst (λ s. IsNext s body x) (sym h) n, ap (λ s. changed s x) h)
leads_push r (b ∷ bodies) body c x h n = (h.0, h.1, leads_push (changed r h.0) bodies body c x h.2 n)

pub leads_one : (r : Register) (bodies : List (List ℕ)) (c d : Register) → Leads r bodies c → Leads r bodies d → c ≡ d
leads_one r [] c d h k = sym h ∙ k
leads_one r (b ∷ bodies) c d h k = leads_one (changed r h.0) bodies c d h.2 (subst (λ x. Leads (changed r x) bodies d) (one_body b k.0 h.0 k.1.body_is h.1.body_is) k.2)

pub leads_armed : (r : Register) (bodies : List (List ℕ)) (c : Register) → Leads r bodies c → c.armed ≡ r.armed
leads_armed r [] c h = ap (λ s. s.armed) (sym h)
leads_armed r (b ∷ bodies) c h = leads_armed (changed r h.0) bodies c h.2 ∙ as_armed r h.0

pub leads_length : (r : Register) (bodies : List (List ℕ)) (c : Register) → Leads r bodies c → c.length ≡ r.length + length (records bodies)
leads_length r [] c h = ap (λ s. s.length) (sym h) ∙ omega arith
leads_length r (b ∷ bodies) c h = let l = leads_length (changed r h.0) bodies c h.2 in let m = longer_by r h.0 in let n = ap length h.1.body_is.bytes ∙ length_is h.0 in omega (arith, l, m, n, length-append (framed b) (records bodies))

-- ---- what is replayed ----

pub is_length : (c : Register) (body : List ℕ) (x : Change) → IsNext c body x → (changed c x).length ≡ c.length + record_length (body_length x)
is_length c body x n = longer_by c x

pub next_in : (k : Kept) (c : Register) (n : ℕ) (x : Change) → register_of k c.length ≡ c → is_next c x ≡ is_next (register_of k n) x
next_in k c n x h = ap (λ r. is_next r x) (sym h) ∙ next_any k c.length n x

pub made_kept : (k j : Kept) (c : Register) (x : Change) → register_of k c.length ≡ c → ((n m : ℕ) → m ≡ n + record_length (body_length x) → register_of j m ≡ changed (register_of k n) x) → register_of j (changed c x).length ≡ changed c x
made_kept k j c x h f = f c.length (changed c x).length (longer_by c x) ∙ ap (λ r. changed r x) h

told_once : {bytes other : List ℕ} → Some bytes ≡ Some other → bytes ≡ other
told_once is = cc

same_rest : (x a b : List ℕ) → x ++ a ≡ x ++ b → a ≡ b
same_rest x a b same = sym (drop_at x a (length x) refl) ∙ ap (λ l. drop (length x) l) same ∙ drop_at x b (length x) refl

last_fits : (bodies : List (List ℕ)) (body : List ℕ) → Fits (bodies ++ body ∷ []) → length body < 2 ^ 32
last_fits bodies body fits = subst (λ (b : List ℕ). length b < 2 ^ 32) (get_or-append_seam bodies body [] []) (fits (length bodies) [] (omega (arith, length-append bodies (body ∷ []))))

module _ {D : Type 0} (seen : D → Option (List ℕ)) (may_leave : D → List ℕ → Type 0) where
  -- a record whose change was made
  pub one_more : (old new : Journal D) (bytes body : List ℕ) (k j : Kept) → (has : HasReplayed seen may_leave old bytes k)
      → ((bodies : List (List ℕ)) (rest : List ℕ) → HasGiven seen may_leave old bodies rest → (after : List ℕ) × HasGiven seen may_leave new (bodies ++ body ∷ []) after)
      → seen old.disk ≡ seen new.disk → (x : Change) → IsNext has.contents body x → register_of j (changed has.contents x).length ≡ changed has.contents x
      → HasReplayed seen may_leave new bytes j
  one_more old new bytes body k j has gives same x n kept =
      let next = gives has.bodies has.rest has.given in record {
        bodies = has.bodies ++ body ∷ [];
        rest = next.0;
        given = next.1;
        bytes_are = has.bytes_are ∙ told_once (sym has.given.bytes ∙ same ∙ next.1.bytes);
        contents = changed has.contents x;
        leads = leads_push empty_register has.bodies body has.contents x has.leads n;
        kept = kept;
      }

  -- a record whose body is no next change
  pub foreign : (old new : Journal D) (bytes body : List ℕ) (k : Kept) → (has : HasReplayed seen may_leave old bytes k)
      → ((bodies : List (List ℕ)) (rest : List ℕ) → HasGiven seen may_leave old bodies rest → (after : List ℕ) × HasGiven seen may_leave new (bodies ++ body ∷ []) after)
      → seen old.disk ≡ seen new.disk → ((x : Change) → IsNext has.contents body x → ⊥) → IsDamaged old.at bytes
  foreign old new bytes body k has gives same none =
      let next = gives has.bodies has.rest has.given in record {
        bodies = has.bodies;
        rest = has.rest;
        contents = has.contents;
        leads = has.leads;
        bytes_are = has.bytes_are;
        place_is = has.given.place_is;
        fits = has.given.fits;
        wrong = inr (inl (record {
          body = body;
          after = next.0;
          rest_is = same_rest (records has.bodies) has.rest (framed body ++ next.0) (told_once (sym has.given.bytes ∙ same ∙ next.1.bytes) ∙ records-push has.bodies body next.0);
          some = next.1.some;
          fits = last_fits has.bodies body next.1.fits;
          none = none;
        }));
      }

  pub cut_off : (old : Journal D) (bytes : List ℕ) (k : Kept) (place : ℕ) → (has : HasReplayed seen may_leave old bytes k) → (place ≡ old.at) × IsCutShort has.rest → IsDamaged place bytes
  cut_off old bytes k place has cut = record { bodies = has.bodies; rest = has.rest; contents = has.contents; leads = has.leads; bytes_are = has.bytes_are; place_is = cut.0 ∙ has.given.place_is; fits = has.given.fits; wrong = inl cut.1 }

  pub all_replayed : (old new : Journal D) (bytes : List ℕ) (k : Kept) → (has : HasReplayed seen may_leave old bytes k) → IsSettled seen may_leave new has.bodies → (c : Register) × IsReplayed seen may_leave new k c
  all_replayed old new bytes k has settled = (has.contents, record { bodies = has.bodies; settled = settled; leads = has.leads; kept = has.kept })

  pub none_replayed : (journal : Journal D) (bytes : List ℕ) (k : Kept) → register_of k 1 ≡ empty_register → HasGiven seen may_leave journal [] bytes → HasReplayed seen may_leave journal bytes k
  none_replayed journal bytes k e given = record { bodies = []; rest = bytes; given = given; bytes_are = refl; contents = empty_register; leads = refl; kept = e }
