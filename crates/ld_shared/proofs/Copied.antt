-- Copies of a journal's records.
use Rattle.std.proofs.Common.{◌≡◌, ◌≤◌, ◌<◌, ◌+◌, ◌⊎◌, inl, inr, ℕ, Bool, true, List, [], ◌∷◌, ◌++◌, Option, Some, Ok, Err, length, map, take, refl, ap, sym, ◌∙◌, subst, arith, length-append}
use Rattle.std.proofs.lemmas.List.{take_all, take-take, length-take, length-map}
use Rattle.std.specs.Result.{IsErrAnd, IsErrOf, IsOk, OnOk, OnErr}
use Rattle.std.specs.declared.result.Result.{Result}
use Rattle.std.specs.declared.result.Result.TheVariants as results
use Rattle.ld_disk.specs.declared.disk.Disk.{Ghosts}
use Rattle.ld_disk.specs.declared.memory.MemDisk.{MemDisk}
use Rattle.ld_journal.specs.Format.{records, framed, IsJournal}
use Rattle.ld_journal.specs.Rest.{IsParted, IsShut, BeginsWith}
use Rattle.ld_journal.proofs.Records.{records-push, length-records-push, fits-push}
use Rattle.ld_journal.proofs.Reading.{one_reading}
use Rattle.ld_msg.specs.Register.{Register, empty_register}
use Rattle.ld_records.specs.Growth.{Grows, IsAt}
use Rattle.ld_register.specs.Calls.{IsFree}
use Rattle.ld_register.specs.Changes.{Leads}
use Rattle.ld_register.specs.Held.{owned, Tells, Foretells, Meets}
use Rattle.ld_register.specs.declared.disk.DiskRegister.{DiskRegister}
use Rattle.ld_register.specs.declared.fault.RegisterFault.{RegisterFault}
use Rattle.ld_register.specs.declared.fault.RegisterFault.TheVariants as faults
use Rattle.ld_register.specs.Stands.{StandsFor, IsDamaged}
use Rattle.ld_shared.specs.Bodies.{bodies_of, body_in}
use Rattle.ld_shared.specs.Copies.{AreCopies, HasCopied, IsCopied, IsFront, IsOther, IsOtherAt, IsOtherThan, IsSameAt, MakesAlone, MakesOneAlone, copies, copies_from, copy_of}
use Rattle.ld_shared.specs.declared.copying.CopyFault.{CopyFault}
use Rattle.ld_shared.specs.declared.copying.CopyFault.TheVariants as refusals
use Rattle.ld_shared.proofs.Growing.{take_grows, at_below, grows_front, grows_length}
use Rattle.ld_shared.proofs.Meeting.{told_once}

copies_push : (n : ℕ) (bodies : List (List ℕ)) (body : List ℕ) → copies_from n (bodies ++ body ∷ []) ≡ copies_from n bodies ++ copy_of (n + length bodies) body ∷ []
copies_push n [] body = ap (λ k. copy_of k body ∷ []) (omega arith)
copies_push n (b ∷ bodies) body = ap (λ l. copy_of n b ∷ l) (copies_push (n + 1) bodies body ∙ ap (λ k. copies_from (n + 1) bodies ++ copy_of k body ∷ []) (omega arith))

length_copies : (n : ℕ) (bodies : List (List ℕ)) → length (copies_from n bodies) ≡ length bodies
length_copies n [] = refl
length_copies n (b ∷ bodies) = omega (arith, length_copies (n + 1) bodies)

bodies_copies : (n : ℕ) (bodies : List (List ℕ)) → bodies_of (copies_from n bodies) ≡ bodies
bodies_copies n [] = refl
bodies_copies n (b ∷ bodies) = ap (λ l. b ∷ l) (bodies_copies (n + 1) bodies)

-- ---- a journal is read ----

pub copied_none : (bytes : List ℕ) (values : List (List ℕ)) → 0 < length bytes → values ≡ [] → HasCopied bytes 0 0 values
copied_none bytes values some none = record { bodies = []; rest = bytes; bytes_are = refl; place_is = refl; some = some; fits = λ k d less. absurd (omega (arith, less)); count = refl; values_are = none }

pub copied_more : (bytes : List ℕ) (at n next : ℕ) (old new : List (List ℕ)) (body : List ℕ) (h : HasCopied bytes at n old) → BeginsWith body h.rest → next ≡ at + 5 + length body → new ≡ old ++ copy_of n body ∷ [] → HasCopied bytes next (n + 1) new
copied_more bytes at n next old new body h b behind is = let counted : n ≡ 0 + length h.bodies = omega (arith, h.count) in record {
  bodies = h.bodies ++ body ∷ [];
  rest = b.after;
  bytes_are = h.bytes_are ∙ ap (λ l. records h.bodies ++ l) b.rest_is ∙ sym (records-push h.bodies body b.after);
  place_is = omega (arith, behind, h.place_is, length-records-push h.bodies body);
  some = b.some;
  fits = fits-push h.bodies body h.fits b.fits;
  count = omega (arith, h.count, length-append h.bodies (body ∷ []));
  values_are = is ∙ ap (λ l. l ++ copy_of n body ∷ []) h.values_are ∙ ap (λ k. copies_from 0 h.bodies ++ copy_of k body ∷ []) counted ∙ sym (copies_push 0 h.bodies body);
}

pub copied_end : (bytes : List ℕ) (at n : ℕ) (values : List (List ℕ)) (h : HasCopied bytes at n values) → IsShut h.rest → AreCopies bytes values
copied_end bytes at n values h s = record {
  bodies = h.bodies;
  journal = record { gate = s.gate; after = s.after; bytes_are = h.bytes_are ∙ ap (λ l. records h.bodies ++ l) s.rest_is; shut = s.shut; fits = h.fits };
  values_are = h.values_are;
}

pub copied_parted : {D : Type 0} (seen : D → Option (List ℕ)) (disk : D) (bytes : List ℕ) (at n : ℕ) (values : List (List ℕ)) (h : HasCopied bytes at n values) → seen disk ≡ Some bytes → IsParted seen disk at (records h.bodies) h.rest
copied_parted seen disk bytes at n values h is = record { bytes = is ∙ ap (λ b. Some b) h.bytes_are; place_is = h.place_is; some = h.some }

pub copied_length : (bytes len_bytes : List ℕ) (at n len : ℕ) (values : List (List ℕ)) (h : HasCopied bytes at n values) → len ≡ length bytes → len ≡ length (records h.bodies ++ h.rest)
copied_length bytes len_bytes at n len values h is = is ∙ ap length h.bytes_are

-- ---- records are made ----

pub front_next : (n : ℕ) (all xs ys : List (List ℕ)) → IsSameAt n all ys → Grows xs ys → n ≤ length xs → take n xs ≡ take n all → take (n + 1) ys ≡ take (n + 1) all
front_next n all xs ys s g less front = s.there ∙ ap (λ l. l ++ s.value ∷ []) (take_grows n xs ys less g ∙ front) ∙ sym s.same

pub same_below : (n : ℕ) (all ys : List (List ℕ)) → IsSameAt n all ys → (n < length all) × (n < length ys)
same_below n all ys s = (at_below n s.value all s.same, at_below n s.value ys s.there)

pub front_whole : (n : ℕ) (all xs ys : List (List ℕ)) → Grows xs ys → n ≤ length xs → take n xs ≡ take n all → n ≤ length all → length all ≤ n → length ys ≤ n → ys ≡ all
front_whole n all xs ys g less front below whole ended = sym (take_all n ys (omega (arith, ended))) ∙ take_grows n xs ys less g ∙ front ∙ take_all n all (omega (arith, whole))

pub front_other : (n m : ℕ) (all xs ys : List (List ℕ)) → Grows xs ys → n ≤ length xs → take n xs ≡ take n all → (m ≡ n) × IsOtherAt n all ys → IsOther m all ys
front_other n m all xs ys g less front other = subst (λ k. IsOther k all ys) (sym other.0) (record { front = take_grows n xs ys less g ∙ front; at = other.1 })

-- ---- the whole copy ----

pub is_copied : (bytes : List ℕ) (n : ℕ) (values list : List (List ℕ)) (c : Register) → AreCopies bytes values → StandsFor bytes c → n ≡ length values → list ≡ values → IsCopied bytes n list
is_copied bytes n values list c a s count is =
    let bodies : bodies_of list ≡ a.bodies = ap (λ l. bodies_of l) (is ∙ a.values_are) ∙ bodies_copies 0 a.bodies in record {
      bodies = a.bodies;
      journal = a.journal;
      count = count ∙ ap length a.values_are ∙ length_copies 0 a.bodies;
      values_are = is ∙ a.values_are;
      bodies_are = bodies;
      contents = c;
      leads = subst (λ b. Leads empty_register b c) (one_reading bytes s.bodies a.bodies s.journal a.journal ∙ sym bodies) s.leads;
      stands = s;
    }

pub other_than : (bytes : List ℕ) (n : ℕ) (values list : List (List ℕ)) → AreCopies bytes values → IsOther n values list → IsOtherThan bytes n list
other_than bytes n values list a o = record { bodies = a.bodies; journal = a.journal; other = subst (λ l. IsOther n l list) a.values_are o }

-- ---- bytes are a register's ----

free_not_ok : {T : Type 0} (r : Result T RegisterFault) → IsFree r → IsOk r → ⊥
free_not_ok (results.Ok given) free ok = free
free_not_ok (results.Err fault) free ok = absurd (cc ok)

module _ {T : Type 0} {g : Ghosts MemDisk} (bytes : List ℕ) (disk : MemDisk) (old new : DiskRegister MemDisk g) (answer : Result T RegisterFault) (by : Register → Result T RegisterFault) (after : Register → Register) where
  pub checked_stands : (r : Result (Unit {0}) CopyFault) → owned old ≡ disk → g.seen disk ≡ Some bytes → Tells old → Meets old new answer by after → OnOk r (IsOk answer) → OnOk r ((c : Register) × StandsFor bytes c)
  checked_stands (results.Err fault) owns seen tells m ok = tt
  checked_stands (results.Ok u) owns seen tells m ok = elim (m.whole tells) [
    | inl free ↦ absurd (free_not_ok answer free ok)
    | inr h ↦ (h.0, subst (λ b. StandsFor b h.0) (told_once (sym h.1.reads.seen_is ∙ ap g.seen owns ∙ seen)) h.1.reads.stands)
  ]

  pub checked_whole : (r : Result (Unit {0}) CopyFault) (c : Register) → Foretells old c → Meets old new answer by after → IsOk (by c) → (IsErrOf answer faults.NoMemory → IsErrOf r refusals.NoMemory) → (IsOk answer → IsOk r) → OnErr r (IsErrOf r refusals.NoMemory)
  checked_whole (results.Ok u) c foretells m tells memory fine = tt
  checked_whole (results.Err fault) c foretells m tells memory fine = elim (m.exact c foretells) [
    | inl none ↦ memory none.0
    | inr right ↦ absurd (let ok = fine (subst (λ o. IsOk o) (sym right.0) tells) in cc ok)
  ]

-- ---- where nobody else appends ----

no_more : (n : ℕ) (all ys : List (List ℕ)) → ys ≡ take n all → length ys ≤ n
no_more n all ys is = omega (arith, ap length is, length-take n all)

at_whole : (n k : ℕ) (v : List ℕ) (all ys : List (List ℕ)) → ys ≡ take k all → IsAt n v ys → IsAt n v all
at_whole n k v all ys is at =
    let less : n + 1 ≤ k = omega (arith, at_below n v ys at, no_more k all ys is) in
    sym (take-take (n + 1) k all less) ∙ ap (λ l. take (n + 1) l) (sym is) ∙ at ∙ ap (λ l. take n l ++ v ∷ []) is ∙ ap (λ l. l ++ v ∷ []) (take-take n k all (omega (arith, less)))

front_of : (n : ℕ) (all xs ys : List (List ℕ)) → Grows xs ys → n ≤ length all → ys ≡ take n all → IsFront (length xs) all xs
front_of n all xs ys g less is =
    let short : length xs ≤ n = omega (arith, grows_length xs ys g, no_more n all ys is) in
    (omega (arith, short, less), sym (grows_front xs ys g) ∙ ap (λ l. take (length xs) l) is ∙ take-take (length xs) n all short)

front_short : (k : ℕ) (all xs : List (List ℕ)) → IsFront k all xs → length xs ≡ k
front_short k all xs f = omega (arith, ap length f.1, length-take k all, f.0)

-- these records are as before, or the first so many
abbrev SoFar : ℕ → List (List ℕ) → List (List ℕ) → List (List ℕ) → Type 0
SoFar n all before now = (now ≡ before) ⊎ (now ≡ take n all)

pub alone_next : (n : ℕ) (all before xs ys : List (List ℕ)) (r : Result Bool CopyFault) → MakesOneAlone n all xs ys r → r ≡ Ok true → n ≤ length xs → take n xs ≡ take n all → SoFar n all before xs → SoFar (n + 1) all before ys
alone_next n all before xs ys r o is less front so = elim (o.made is) [
  | inl there ↦ (elim so [
    | inl same ↦ inl (there.1 ∙ same)
    | inr first ↦ absurd (omega (arith, there.0, no_more n all xs first))
  ])
  | inr made ↦ inr (made.3 ∙ ap (λ l. l ++ made.1 ∷ []) (sym (take_all n xs (omega (arith, made.0))) ∙ front) ∙ sym made.2)
]

pub alone_whole : (n : ℕ) (all before ys : List (List ℕ)) → Grows before ys → n ≡ length all → ys ≡ all → MakesAlone all before ys (Ok n)
alone_whole n all before ys g is whole = record {
  goes_on = λ k f. inl (ap (λ m. counted m) is, whole);
  refused = λ none. absurd (none (length before) (front_of (length all) all before ys g (omega arith) (whole ∙ sym (take_all (length all) all (omega arith)))));
}
  where
    counted : ℕ → Result ℕ CopyFault
    counted m = Ok m

abbrev pub refusal : CopyFault → Result ℕ CopyFault
refusal fault = Err fault

pub alone_memory : (n : ℕ) (all before xs ys : List (List ℕ)) → Grows before xs → n ≤ length all → ys ≡ xs → SoFar n all before xs → MakesAlone all before ys (refusal refusals.NoMemory)
alone_memory n all before xs ys g less same so = record {
  goes_on = λ k f. elim so [
    | inl is ↦ inr (inl refl, k, omega arith, (f.0, same ∙ is ∙ f.1))
    | inr is ↦ inr (inl refl, n, omega (arith, front_short k all before f, grows_length before xs g, no_more n all xs is), (less, same ∙ is))
  ];
  refused = λ none. (
    inr (inl refl),
    (elim so [
      | inl is ↦ same ∙ is
      | inr is ↦ absurd (none (length before) (front_of n all before xs g less is))
    ]),
  );
}

pub alone_taken : (n : ℕ) (all before xs ys : List (List ℕ)) → ys ≡ xs → IsOtherAt n all ys → SoFar n all before xs → MakesAlone all before ys (refusal (refusals.Taken n))
alone_taken n all before xs ys same o so = record {
  goes_on = λ k f. absurd (elim so [
    | inl is ↦ o.differs (at_whole n k o.value all ys (same ∙ is ∙ f.1) o.there)
    | inr is ↦ omega (arith, at_below n o.value ys o.there, no_more n all ys (same ∙ is))
  ]);
  refused = λ none. (
    inl (n, refl),
    (elim so [
      | inl is ↦ same ∙ is
      | inr is ↦ absurd (omega (arith, at_below n o.value ys o.there, no_more n all ys (same ∙ is)))
    ]),
  );
}

same_fault : (e f : CopyFault) → IsErrOf {T = Bool} (Err e) f → e ≡ f
same_fault e f is = cc

pub alone_fails : (n : ℕ) (all before xs ys : List (List ℕ)) (fault : CopyFault) → Grows before xs → n ≤ length all → SoFar n all before xs → MakesOneAlone n all xs ys (Err fault)
    → ((m : ℕ) → IsErrOf {T = Bool} (Err fault) (refusals.Taken m) → (m ≡ n) × IsOtherAt n all ys) → MakesAlone all before ys (refusal fault)
alone_fails n all before xs ys fault g less so o taken =
    let same : ys ≡ xs = elim o.others [ inl is ↦ absurd (cc is) | inr is ↦ is ] in
    elim o.refused [
      | inl memory ↦ subst (λ f. MakesAlone all before ys (refusal f)) (sym (same_fault fault refusals.NoMemory memory)) (alone_memory n all before xs ys g less same so)
      | inr other ↦ (let t = taken other.0 other.1 in
          subst (λ f. MakesAlone all before ys (refusal f)) (sym (same_fault fault (refusals.Taken other.0) other.1 ∙ ap (λ k. refusals.Taken k) t.0)) (alone_taken n all before xs ys same t.1 so))
    ]

pub alone_unmade : (all before now : List (List ℕ)) (r : Result ℕ CopyFault) → now ≡ before → IsErrOf r refusals.NoMemory ⊎ IsErrOf r refusals.Disk → MakesAlone all before now r
alone_unmade all before now r same e = record {
  goes_on = λ k f. inr (e, k, omega arith, (f.0, same ∙ f.1));
  refused = λ none. (inr e, same);
}

pub err_as : {S T : Type 0} (e f : CopyFault) → IsErrOf {T = S} (Err e) f → IsErrOf {T = T} (Err e) f
err_as {S = S} {T = T} e f is = ap (λ x. passed x) (one e f is)
  where
    passed : CopyFault → Result T CopyFault
    passed x = Err x

    one : (e f : CopyFault) → IsErrOf {T = S} (Err e) f → e ≡ f
    one e f is = cc

abbrev pub counted : ℕ → Result ℕ CopyFault
counted n = Ok n

pub counted_once : (a b : ℕ) → counted a ≡ counted b → a ≡ b
counted_once a b is = cc

pub pushed_as : {T E : Type 0} (r : Result T E) (new old : List (List ℕ)) (v w : List ℕ) → v ≡ w → OnOk r (new ≡ old ++ v ∷ []) → OnOk r (new ≡ old ++ w ∷ [])
pushed_as r new old v w is h = subst (λ u. OnOk r (new ≡ old ++ u ∷ [])) is h

-- what holds of bytes that are a register's holds of its journal
pub stands_by : (bytes : List ℕ) (bodies : List (List ℕ)) (c : Register) → IsJournal bodies bytes → Leads empty_register bodies c → StandsFor bytes c
stands_by bytes bodies c j l = record { bodies = bodies; journal = j; leads = l }

pub copies_alone : (bytes : List ℕ) (bodies values before now : List (List ℕ)) (r : Result ℕ CopyFault) → AreCopies bytes values → IsJournal bodies bytes → MakesAlone values before now r → MakesAlone (copies bodies) before now r
copies_alone bytes bodies values before now r a j m = subst (λ l. MakesAlone l before now r) (a.values_are ∙ ap (λ b. copies b) (one_reading bytes a.bodies bodies a.journal j)) m

-- a refusal that is passed on
pub memory_as : {S T : Type 0} (r : Result T CopyFault) (f : CopyFault) → IsErrOf r f → IsErrOf {T = S} (Err f) refusals.NoMemory → IsErrOf r refusals.NoMemory
memory_as {S = S} r f is memory = subst (λ e. IsErrOf r e) (one f refusals.NoMemory memory) is
  where
    one : (e d : CopyFault) → IsErrOf {T = S} (Err e) d → e ≡ d
    one e d same = cc

pub length_values : {X : Type 0} (n : ℕ) (xs ys : List X) (f : X → List ℕ) → n ≡ length xs → xs ≡ ys → n ≡ length (map f ys)
length_values n xs ys f is same = is ∙ ap length same ∙ sym (length-map ys f)

pub empty_damaged : (place : ℕ) (bytes : List ℕ) → place ≡ 0 → bytes ≡ [] → IsDamaged place bytes
empty_damaged place bytes at none = record { bodies = []; rest = []; contents = empty_register; leads = refl; bytes_are = none; place_is = at; fits = λ k d less. absurd (omega (arith, less)); wrong = inr (inr (refl, refl)) }

pub place_as : {T : Type 0} (a b : ℕ) → IsErrOf {T = T} (Err (refusals.Damaged a)) (refusals.Damaged b) → b ≡ a
place_as a b is = cc

pub err_of : {T : Type 0} (r : Result T CopyFault) (f : CopyFault) → IsErrAnd r (λ e. e ≡ f) → IsErrOf r f
err_of (results.Ok v) f is = absurd is
err_of (results.Err e) f is = ap (λ e. Err e) is

pub on_err : {T : Type 0} (r : Result T CopyFault) (P : Type 0) → P → OnErr r P
on_err (results.Ok v) P h = tt
on_err (results.Err e) P h = h
