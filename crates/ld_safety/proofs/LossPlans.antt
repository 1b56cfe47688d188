-- What plans say of a number: a loss plan's record is the best statement's, and it has no hole.
use Rattle.std.proofs.Common.{◌≡◌, ◌∙◌, ◌≤◌, ◌<◌, ℕ, inl, inr, refl, ap, sym, subst, Bool, true, ◌==◌, List, Some, arith}
use Rattle.std.proofs.lemmas.Bool.{eqb-true}
use Rattle.ld_lsn.specs.Number.{epoch_of, esn_of, numbered}
use Rattle.ld_msg.specs.declared.msg.What.{What}
use Rattle.ld_msg.specs.declared.msg.What.TheVariants.{Rec, Hole, Bridge, Plug, Withheld}
use Rattle.ld_msg.specs.declared.msg.Entry.{Entry}
use Rattle.ld_msg.specs.Digest.{Told, best, plan_item, plan_end, plan_floor, record_or}
use Rattle.ld_machine.specs.World.{World, Made, In, HasPlan, plan_in, item_in, append_in, item}
use Rattle.ld_safety.proofs.Lists.{cond_both}
use Rattle.ld_safety.proofs.Plans.{plan_shape, best_of, end_above_floor}
use Rattle.ld_safety.proofs.Losses.{loss_says, loss_no_hole}

-- ---- items of plans ----

-- what the plan of a ballot above the epoch says is what the ballot says
pub plan_says : (w : World) (l n b : ℕ) (m : Made) (x : What) → epoch_of n < b → HasPlan w l (epoch_of n) b m → plan_item (epoch_of n) m.loss m.digest (esn_of n) ≡ Some x → item w l n b ≡ Some x
unfolding item
plan_says w l n b m x lt p h = cond_both (b == epoch_of n) (append_in l n w.state.network.sent) (item_in (epoch_of n) (esn_of n) (plan_in l (epoch_of n) b w.made)) (λ o. o ≡ Some x)
    (λ t. absurd (let z = eqb-true b (epoch_of n) t in omega arith)) (λ t. ap (item_in (epoch_of n) (esn_of n)) p ∙ h)

pub same_number : (n : ℕ) → numbered (epoch_of n) (esn_of n) ≡ n
same_number n = omega arith

-- a loss plan has no hole
pub no_loss_hole : (e n : ℕ) (d : List Told) → plan_item e true d n ≡ Some Hole → ⊥
no_loss_hole e n d h = let s = plan_shape e true d n Hole h in elim s.kind [ inl k ↦ loss_no_hole (best (numbered e n) d) (sym k.1) | inr k ↦ let z : Hole ≡ Bridge = k.1 in cc ]

-- a record of a loss plan is the best statement's
pub record RecordFound (n : ℕ) (d : List Told) (p : List ℕ) : Type 0 where
  pub entry : Entry
  pub best_so : best n d ≡ Some entry
  pub what : entry.what ≡ Rec p
  pub told : Told
  pub in_digest : In told d
  pub in_entries : In entry told.entries
  pub number : entry.number ≡ n

pub loss_record : (n : ℕ) (d : List Told) (p : List ℕ) → plan_item (epoch_of n) true d (esn_of n) ≡ Some (Rec p) → RecordFound n d p × (plan_floor (epoch_of n) d < esn_of n)
loss_record n d p h = let s = plan_shape (epoch_of n) true d (esn_of n) (Rec p) h in elim s.kind [
  | inl k ↦ elim (loss_says (best (numbered (epoch_of n) (esn_of n)) d) (Rec p) (sym k.1)) [
    | inl a ↦ (found a.1 (subst (λ v. best v d ≡ Some a.1) (same_number n) a.3) (let z : Rec p ≡ Rec a.0 = a.2 in a.4 ∙ sym z), s.above)
    | inr a ↦ absurd (let z : Rec p ≡ Plug = a in cc)
  ]
  | inr k ↦ absurd (let z : Rec p ≡ Bridge = k.1 in cc)
] where
  found : (f : Entry) → best n d ≡ Some f → f.what ≡ Rec p → RecordFound n d p
  found f b w = let r = best_of n d f b in record {
    entry = f;
    best_so = b;
    what = w;
    told = r.told;
    in_digest = r.in_digest;
    in_entries = r.in_entries;
    number = elim r.whose [ inl q ↦ q | inr q ↦ absurd (let z : Bridge ≡ Rec p = sym q.1 ∙ w in cc) ];
  }

-- ---- what a loss plan makes of a content ----

-- a loss plan copies a record, and makes each other content a plug
abbrev pub as_loss : What → What
as_loss (Rec p) = Rec p
as_loss _ = Plug

pub loss_twice : (x : What) → as_loss (as_loss x) ≡ as_loss x
loss_twice (Rec p) = refl
loss_twice Hole = refl
loss_twice Bridge = refl
loss_twice Plug = refl
loss_twice Withheld = refl

pub loss_content : (x : What) → record_or Plug x ≡ as_loss x
loss_content (Rec p) = refl
loss_content Hole = refl
loss_content Bridge = refl
loss_content Plug = refl
loss_content Withheld = refl

pub loss_no_bridge : (x : What) → as_loss x ≡ Bridge → ⊥
loss_no_bridge (Rec p) h = cc
loss_no_bridge Hole h = cc
loss_no_bridge Bridge h = cc
loss_no_bridge Plug h = cc
loss_no_bridge Withheld h = cc

-- a plan that says something of a number, or vouches for nothing there, doesn't end below it
pub not_below : (e n : ℕ) (k : Bool) (d : List Told) (x : What) → plan_item e k d n ≡ Some x → plan_end e d < n → ⊥
not_below e n k d x h lt = let s = plan_shape e k d n x h in elim s.kind [ inl u ↦ (let v = u.0 in omega arith) | inr u ↦ (let v = u.0 in omega arith) ]

pub floor_not_below : (e n : ℕ) (d : List Told) → n ≤ plan_floor e d → plan_end e d < n → ⊥
floor_not_below e n d h lt = let z = end_above_floor e d in omega arith
