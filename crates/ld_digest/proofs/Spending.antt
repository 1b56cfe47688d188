-- Whether a digest with a page or a loss more is spent.
use Rattle.std.proofs.Common.{◌≡◌, ℕ, suc, max, ◌+◌, length, List, [], ◌∷◌, ◌≤◌, map, drop, Bool, true, false, not, nat_lt, nat_le, refl, ap, sym, ◌∙◌, add-zero}
use Rattle.std.proofs.Math.ListN.{drop_of_length-le}
use Rattle.std.specs.Prelude.{◌==◌, ◌&&◌, ◌||◌, if◌then◌else◌}
use Rattle.ld_table.specs.Words.{how_many, all_of}
use Rattle.ld_lsn.specs.Number.{numbered, last_esn}
use Rattle.ld_ids.specs.declared.set.Spec.{Spec}
use Rattle.ld_ids.specs.Choice.{nodes_of}
use Rattle.ld_msg.specs.declared.msg.Entry.{Entry}
use Rattle.ld_msg.specs.Digest.{Told, takes_page, told_page, told_lost, digest_lng, with_page, with_lost, enough, is_spent}
use Rattle.ld_msg.specs.Sequencer.{takes_any}

module _ (f : Told → Told) (p q : Told → Bool) (h : (t : Told) → p (f t) ≡ q t) where
  all_map : (d : List Told) → all_of p (map f d) ≡ all_of q d
  all_map [] = refl
  all_map (t ∷ d) = ap (λ b. b && all_of p (map f d)) (h t) ∙ ap (λ b. q t && b) (all_map d)

  count_map : (d : List Told) → how_many p (map f d) ≡ how_many q d
  count_map [] = refl
  count_map (t ∷ d) = ap (λ b. if b then suc (how_many p (map f d)) else how_many p (map f d)) (h t) ∙ ap (λ n. if q t then suc n else n) (count_map d)

-- so many nodes with the flags that a change gives them
abbrev pub spent_with : Spec → (Told → Bool) → (Told → Bool) → List Told → Bool
spent_with s whole lost d = all_of (λ t. whole t || lost t) d && not (nat_lt (length (nodes_of s)) (s.r + how_many (λ t. whole t && not (lost t)) d))

and_true : (b : Bool) → (b && true) ≡ b
and_true true = refl
and_true false = refl

-- all nodes are counted, those from a place on, of which there is none, among them
pub counted : (s : Spec) (whole lost : Told → Bool) (d items : List Told) (i found : ℕ) (each : Bool) → length items ≤ i → (each && all_of (λ t. whole t || lost t) (drop i items)) ≡ all_of (λ t. whole t || lost t) d
    → found + how_many (λ t. whole t && not (lost t)) (drop i items) ≡ how_many (λ t. whole t && not (lost t)) d → (each && not (nat_lt (length (nodes_of s)) (s.r + found))) ≡ spent_with s whole lost d
counted s whole lost d items i found each end all many =
    let none : drop i items ≡ [] = drop_of_length-le items end in
    let a : each ≡ all_of (λ t. whole t || lost t) d = sym (and_true each) ∙ (ap (λ l. each && all_of (λ t. whole t || lost t) l) (sym none) ∙ all) in
    let m : found ≡ how_many (λ t. whole t && not (lost t)) d = sym (add-zero found) ∙ (ap (λ l. found + how_many (λ t. whole t && not (lost t)) l) (sym none) ∙ many) in
    ap (λ b. b && not (nat_lt (length (nodes_of s)) (s.r + found))) a ∙ ap (λ n. all_of (λ t. whole t || lost t) d && not (nat_lt (length (nodes_of s)) (s.r + n))) m

spent_map : (s : Spec) (f : Told → Told) (whole lost : Told → Bool) (d : List Told) → ((t : Told) → ((f t).whole || (f t).lost) ≡ (whole t || lost t)) → ((t : Told) → ((f t).whole && not (f t).lost) ≡ (whole t && not (lost t))) → is_spent s (map f d) ≡ spent_with s whole lost d
unfolding is_spent enough
spent_map s f whole lost d h k =
    ap (λ b. b && not (nat_lt (length (nodes_of s)) (s.r + how_many (λ t. t.whole && not t.lost) (map f d)))) (all_map f (λ t. t.whole || t.lost) (λ t. whole t || lost t) h d)
    ∙ ap (λ n. all_of (λ t. whole t || lost t) d && not (nat_lt (length (nodes_of s)) (s.r + n))) (count_map f (λ t. t.whole && not t.lost) (λ t. whole t && not (lost t)) k d)

-- ---- a page ----

abbrev pub whole_by : ℕ → ℕ → Bool → Told → Bool
whole_by y from ends t = if takes_page y from t then ends else t.whole

or_false : (b : Bool) → (b || false) ≡ b
or_false true = refl
or_false false = refl

pub all_tried : (y from : ℕ) (d items : List Told) (i : ℕ) (taken : Bool) → length items ≤ i → (taken || takes_any y from (drop i items)) ≡ takes_any y from d → taken ≡ takes_any y from d
all_tried y from d items i taken end h = sym (or_false taken) ∙ (ap (λ l. taken || takes_any y from l) (sym (drop_of_length-le items end)) ∙ h)

abbrev page_of : ℕ → ℕ → ℕ → ℕ → ℕ → List Entry → Told → Bool → Told
page_of epoch good upto trim lng es t b = if b then told_page epoch good upto trim lng es t else t

pub spent_page : (s : Spec) (epoch y from upto trim lng : ℕ) (es : List Entry) (d : List Told) → is_spent s (with_page epoch y from upto trim lng es d) ≡ spent_with s (whole_by y from (nat_le (numbered epoch last_esn) upto)) (λ t. t.lost) d
unfolding with_page
spent_page s epoch y from upto trim lng es d =
    let good = max (digest_lng d) lng in
    spent_map s (λ t. page_of epoch good upto trim lng es t (takes_page y from t)) (whole_by y from (nat_le (numbered epoch last_esn) upto)) (λ t. t.lost) d
    (λ t. elim (takes_page y from t) as (λ b. ((page_of epoch good upto trim lng es t b).whole || (page_of epoch good upto trim lng es t b).lost) ≡ ((if b then nat_le (numbered epoch last_esn) upto else t.whole) || t.lost)) [ true ↦ refl | false ↦ refl ])
    (λ t. elim (takes_page y from t) as (λ b. ((page_of epoch good upto trim lng es t b).whole && not (page_of epoch good upto trim lng es t b).lost) ≡ ((if b then nat_le (numbered epoch last_esn) upto else t.whole) && not t.lost)) [ true ↦ refl | false ↦ refl ])

-- ---- a loss ----

abbrev pub lost_by : ℕ → Told → Bool
lost_by y t = t.lost || (t.node == y)

either : (a b : Bool) → (if a then true else b) ≡ (b || a)
either true true = refl
either true false = refl
either false true = refl
either false false = refl

pub spent_loss : (s : Spec) (y : ℕ) (d : List Told) → is_spent s (with_lost y d) ≡ spent_with s (λ t. t.whole) (lost_by y) d
unfolding with_lost
spent_loss s y d = spent_map s (told_lost y) (λ t. t.whole) (lost_by y) d
    (λ t. ap (λ b. t.whole || b) (either (t.node == y) t.lost))
    (λ t. ap (λ b. t.whole && not b) (either (t.node == y) t.lost))
