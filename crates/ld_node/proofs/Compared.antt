-- An offset that a store is compared with stands before the disk's end, where each offset of the index does: what is decided by it is then the same for the offsets as they are.
use Rattle.std.proofs.Common.{◌≡◌, ◌≤◌, ◌+◌, ◌-◌, ℕ, zero, suc, Bool, true, false, List, [], ◌∷◌, map, length, get_or, nat_lt, if◌then◌else◌, refl, ap, sym, ◌∙◌, arith}
use Rattle.std.proofs.lemmas.Bool.{ltb-true}
use Rattle.std.proofs.lemmas.Bool.Decides.{nat_tests}
use Rattle.ld_table.specs.Table.{map_values}
use Rattle.ld_table.specs.Named.{same}
use Rattle.ld_table.specs.Words.{numbers_from}
use Rattle.ld_table.proofs.NameLaws.{same-true, same-self}
use Rattle.ld_msg.specs.declared.msg.What.{What}
use Rattle.ld_msg.specs.declared.msg.What.TheVariants.{Rec, Hole, Bridge, Plug, Withheld}
use Rattle.ld_msg.specs.declared.msg.Entry.{Entry}
use Rattle.ld_msg.specs.declared.msg.Msg.{Msg}
use Rattle.ld_op.specs.Plain.{Plain, Log}
use Rattle.ld_op.specs.Cells.{each_what, each_entry, each_log, each_plain}
use Rattle.ld_op.specs.declared.pointed.Place.{Place}
use Rattle.ld_seal.specs.declared.decision.Decision.{Decision}
use Rattle.ld_seal.specs.declared.decision.Decision.TheVariants as decisions
use Rattle.ld_seal.specs.Decided.{store_decided, payload_of, is_compare, compared}
use Rattle.ld_store.specs.Open.{within}

-- ---- one function behind another ----
module _ (f h : ℕ → ℕ) where
  abbrev behind : ℕ → ℕ
  behind k = f (h k)

  numbers_behind : (p : List ℕ) → map f (map h p) ≡ map behind p
  numbers_behind [] = refl
  numbers_behind (k ∷ p) = ap (λ q. f (h k) ∷ q) (numbers_behind p)

  what_behind : (w : What) → each_what f (each_what h w) ≡ each_what behind w
  what_behind (Rec p) = ap Rec (numbers_behind p)
  what_behind Hole = refl
  what_behind Bridge = refl
  what_behind Plug = refl
  what_behind Withheld = refl

  table_behind : (m : List (ℕ × Entry)) → map_values (each_entry f) (map_values (each_entry h) m) ≡ map_values (each_entry behind) m
  table_behind [] = refl
  table_behind (e ∷ m) = (λ i. (e.0, record { number = e.1.number; ballot = e.1.ballot; what = what_behind e.1.what i }) ∷ table_behind m i)

  logs_behind : (m : List (ℕ × Log)) → map_values (each_log f) (map_values (each_log h) m) ≡ map_values (each_log behind) m
  logs_behind [] = refl
  logs_behind (g ∷ m) = (λ i. (g.0, record g.1 { entries = table_behind g.1.entries i }) ∷ logs_behind m i)

  plain_behind : (p : Plain) → each_plain f (each_plain h p) ≡ each_plain behind p
  plain_behind p = ap (λ m. record p { logs = m }) (logs_behind p.logs)

-- ---- bytes that stand from a place on, and another one behind them ----

abbrev last_of : List ℕ → ℕ
last_of [] = 0
last_of (y ∷ []) = y
last_of (y ∷ z ∷ ys) = last_of (z ∷ ys)

abbrev put_at : ℕ → List ℕ → ℕ → ℕ
put_at at q k = get_or q (k - at) (last_of q + 1)

reads : (d : ℕ) (q : List ℕ) (at : ℕ) (f : ℕ → ℕ) → ((i : ℕ) → f (at + i) ≡ get_or q i d) → map f (numbers_from at (length q)) ≡ q
reads d [] at f is = refl
reads d (y ∷ ys) at f is =
    let first : f at ≡ y = ap f (let e : at ≡ at + 0 = omega arith in e) ∙ is 0 in
    let rest = reads d ys (at + 1) f (λ i. ap f (let e : (at + 1) + i ≡ at + suc i = omega arith in e) ∙ is (suc i)) in
    (λ i. first i ∷ rest i)

at_end : (d : ℕ) (q : List ℕ) → get_or q (length q) d ≡ d
at_end d [] = refl
at_end d (y ∷ ys) = at_end d ys

module _ (at : ℕ) (q : List ℕ) where
  put_there : (i : ℕ) → put_at at q (at + i) ≡ get_or q i (last_of q + 1)
  put_there i = ap (λ k. get_or q k (last_of q + 1)) (let e : at + i - at ≡ i = omega arith in e)

  put_read : map (put_at at q) (numbers_from at (length q)) ≡ q
  put_read = reads (last_of q + 1) q at (put_at at q) put_there

  put_end : put_at at q (at + length q) ≡ last_of q + 1
  put_end = put_there (length q) ∙ at_end (last_of q + 1) q

-- ---- places before an end ----

stays_below : (n k at : ℕ) → at + k ≤ n → map (within n) (numbers_from at k) ≡ numbers_from at k
stays_below n zero at less = refl
stays_below n (suc k) at less =
    let first : within n at ≡ at = ap (λ (b : Bool). if b then at else at + 1) (let e : nat_lt at n ≡ true = grind (arith, nat_tests, less) in e) in
    (λ i. first i ∷ stays_below n k (at + 1) (omega (arith, less)) i)

head_is : (x y : ℕ) (xs ys : List ℕ) → x ∷ xs ≡ y ∷ ys → x ≡ y
head_is x y xs ys is = cc is

tail_is : (x y : ℕ) (xs ys : List ℕ) → x ∷ xs ≡ y ∷ ys → xs ≡ ys
tail_is x y xs ys is = cc is

one_below : (n at y : ℕ) (f : ℕ → ℕ) (b : Bool) → nat_lt at n ≡ b → f (if b then at else at + 1) ≡ y → f (at + 1) ≡ y + 1 → at + 1 ≤ n
one_below n at y f true below is end = let less = ltb-true at n below in omega (arith, less)
one_below n at y f false below is end = absurd (let e : y ≡ y + 1 = sym is ∙ end in omega (arith, e))

-- where what is put at the offsets, moved past the end, reads the same, they are before it
below : (n : ℕ) (q : List ℕ) (at : ℕ) (f : ℕ → ℕ) → map (λ k. f (within n k)) (numbers_from at (length q)) ≡ q → f (at + length q) ≡ last_of q + 1 → (length q ≡ 0 → ⊥) → at + length q ≤ n
below n [] at f is end some = absurd (some refl)
below n (y ∷ []) at f is end some = one_below n at y f (nat_lt at n) refl (head_is _ _ _ _ is) end
below n (y ∷ z ∷ ys) at f is end some =
    let rest = below n (z ∷ ys) (at + 1) f (tail_is _ _ _ _ is) (ap f (let e : (at + 1) + length (z ∷ ys) ≡ at + length (y ∷ z ∷ ys) = omega arith in e) ∙ end) (λ none. absurd (cc none)) in
    omega (arith, rest)

same_taken : (a b : Bool) → (if a then decisions.Same else decisions.Take) ≡ (if b then decisions.Same else decisions.Take) → a ≡ true → b ≡ true
same_taken true true is a_is = refl
same_taken true false is a_is = absurd (cc is)
same_taken false b is a_is = absurd (cc a_is)

module _ (p : Plain) (m : Msg) (place : Place)
    (decides : (f : ℕ → ℕ) → store_decided (each_plain f p) m ≡ (if same (map f (numbers_from place.at place.len)) (payload_of m.body) then decisions.Same else decisions.Take))
    (long : place.len ≡ length (payload_of m.body)) where
  abbrev q : List ℕ
  q = payload_of m.body

  moved : (n : ℕ) → each_plain (within n) p ≡ p → map (λ k. put_at place.at q (within n k)) (numbers_from place.at (length q)) ≡ q
  moved n stays =
      let f = put_at place.at q in
      let plains : each_plain (λ k. f (within n k)) p ≡ each_plain f p = sym (plain_behind f (within n) p) ∙ ap (each_plain f) stays in
      let both = sym (decides f) ∙ (ap (λ i. store_decided i m) (sym plains) ∙ decides (λ k. f (within n k))) in
      let here : same (map f (numbers_from place.at place.len)) q ≡ true = ap (λ k. same (map f (numbers_from place.at k)) q) long ∙ (ap (λ x. same x q) (put_read place.at q) ∙ same-self q) in
      ap (λ k. map (λ j. f (within n j)) (numbers_from place.at k)) (sym long) ∙ same-true _ q (same_taken _ _ both here)

  pub compared_stays : (n : ℕ) → each_plain (within n) p ≡ p → map (within n) (numbers_from place.at place.len) ≡ numbers_from place.at place.len
  compared_stays n stays = by (length q) refl
    where
      by : (k : ℕ) → length q ≡ k → map (within n) (numbers_from place.at place.len) ≡ numbers_from place.at place.len
      by zero is = ap (λ k. map (within n) (numbers_from place.at k)) (long ∙ is) ∙ sym (ap (numbers_from place.at) (long ∙ is))
      by (suc k) is =
          let less = below n q place.at (put_at place.at q) (moved n stays) (put_end place.at q) (λ none. absurd (let e : suc k ≡ 0 = sym is ∙ none in omega (arith, e))) in
          stays_below n place.len place.at (omega (arith, less, long))

-- ---- the decision once what stands there is read ----

pub compared_is : (f : ℕ → ℕ) (p : Plain) (m : Msg) (d : Decision) → (is_compare d ≡ false → d ≡ store_decided (each_plain f p) m)
    → ((place : Place) → d ≡ decisions.Compare place → store_decided (each_plain f p) m ≡ (if same (map f (numbers_from place.at place.len)) (payload_of m.body) then decisions.Same else decisions.Take))
    → store_decided (each_plain f p) m ≡ compared f (payload_of m.body) d
compared_is f p m (decisions.Compare place) other compare = compare place refl
compared_is f p m (decisions.Lost generation end) other compare = sym (other refl)
compared_is f p m (decisions.Clean y) other compare = sym (other refl)
compared_is f p m (decisions.Trimmed t) other compare = sym (other refl)
compared_is f p m (decisions.Sealed by) other compare = sym (other refl)
compared_is f p m decisions.Same other compare = sym (other refl)
compared_is f p m decisions.Take other compare = sym (other refl)
