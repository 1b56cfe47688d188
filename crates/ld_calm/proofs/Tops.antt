-- No record, hole or plug of an epoch stands above the numbers that its sequencer gave, so a plan has at most one item more than these.
use Rattle.std.proofs.Common.{◌≡◌, ◌≤◌, ◌<◌, ℕ, zero, suc, ◌+◌, ◌-◌, inl, inr, refl, ap, subst, Bool, true, false, List, [], ◌∷◌, length, Some, arith, length-append}
use Rattle.ld_table.specs.Words.{numbers_from}
use Rattle.ld_lsn.specs.Number.{epoch_of, esn_of, numbered}
use Rattle.ld_msg.specs.declared.msg.What.{What}
use Rattle.ld_msg.specs.declared.msg.What.TheVariants.{Bridge}
use Rattle.ld_msg.specs.declared.msg.Entry.{Entry}
use Rattle.ld_msg.specs.Digest.{Told, plan, plan_end, plan_floor, plan_item, top_place, record_items, places_between, is_bridge}
use Rattle.ld_machine.specs.Facts.{Happened}
use Rattle.ld_machine.specs.World.{Made, In}
use Rattle.ld_safety.proofs.Given.{AppendedBy}
use Rattle.ld_safety.proofs.Protocol.{Basis, plan_of, Says, Frozen}
use Rattle.ld_safety.proofs.Plans.{plan_shape, top_most}

module _ (hs : List Happened) (made : List Made) (l e n : ℕ) (own : (m : ℕ) (p : List ℕ) → AppendedBy hs l m p → epoch_of m ≡ e → esn_of m ≤ n)
    (frozen : (b : ℕ) (d : Basis) → In (plan_of l e b d) made → (t : Told) → In t d.digest → (f : Entry) → In f t.entries → Frozen hs made l e b f) where
  not_bridge : (x : What) → is_bridge x ≡ false → x ≡ Bridge → ⊥
  not_bridge x h q = let z : is_bridge x ≡ true = ap is_bridge q in cc

  -- by the ballots: a plan has its contents from entries of lesser ones
  pub said_most : (k b m : ℕ) (x : What) → b < k → epoch_of m ≡ e → Says hs made l b m x → (x ≡ Bridge → ⊥) → esn_of m ≤ n
  unfolding plan_end
  said_most zero b m x h q s c = absurd (omega arith)
  said_most (suc k) b m x h q (inl s) c = own m s.payload s.appended q
  said_most (suc k) b m x h q (inr s) c =
      let planned : In (plan_of l e b s.basis) made = subst (λ j. In (plan_of l j b s.basis) made) q s.planned in
      let item : plan_item e s.basis.loss s.basis.digest (esn_of m) ≡ Some x = subst (λ j. plan_item j s.basis.loss s.basis.digest (esn_of m) ≡ Some x) q s.item in
      let shape = plan_shape e s.basis.loss s.basis.digest (esn_of m) x item in
      let top : top_place s.basis.digest s.basis.digest ≤ n = top_most n s.basis.digest (λ t f i j u. let z = frozen b s.basis planned t i f j in said_most k f.ballot f.number f.what (let v = z.below in omega arith) z.epoch z.says (not_bridge f.what u)) in
      elim shape.kind [
        | inl a ↦ (let y = shape.above in let w = a.0 in omega arith)
        | inr a ↦ absurd (c a.1)
      ]

  -- the top of a digest of such entries
  pub digest_top : (b : ℕ) (d : List Told) → ((t : Told) → In t d → (f : Entry) → In f t.entries → Frozen hs made l e b f) → top_place d d ≤ n
  digest_top b d fine = top_most n d (λ t f i j u. let z = fine t i f j in said_most (suc f.ballot) f.ballot f.number f.what (omega arith) z.epoch z.says (not_bridge f.what u))

-- ---- a plan's length ----

pub numbers_length : (first k : ℕ) → length (numbers_from first k) ≡ k
numbers_length first zero = refl
numbers_length first (suc k) = ap suc (numbers_length (first + 1) k)

items_length : (e : ℕ) (loss : Bool) (d : List Told) (ns : List ℕ) → length (record_items e loss d ns) ≡ length ns
items_length e loss d [] = refl
items_length e loss d (n ∷ ns) = ap suc (items_length e loss d ns)

-- each offset between the floor and the top, and the bridge
pub plan_most : (e n : ℕ) (loss : Bool) (d : List Told) → top_place d d ≤ n → length (plan e loss d).items ≤ n + 1
unfolding plan plan_end
plan_most e n loss d h =
    let ns : List ℕ = places_between (plan_floor e d) (plan_end e d) in
    let a : length (record_items e loss d ns) ≡ length ns = items_length e loss d ns in
    let b : length ns ≡ plan_end e d - 1 - plan_floor e d = numbers_length (plan_floor e d + 1) (plan_end e d - 1 - plan_floor e d) in
    let k = length-append (record_items e loss d ns) (record { number = numbered e (plan_end e d); what = Bridge } ∷ []) in omega arith
