use Rattle.std.proofs.Common.{◌≡◌, Ok, inl, refl, ap, arith, sym, ◌∙◌, map, ℕ}
use Rattle.std.proofs.lemmas.List.{length-map}
use Rattle.ld_shared.proofs.Copied.{alone_fails, alone_next, alone_whole, counted_once, err_as, front_next, front_other, front_whole, same_below}
use Rattle.ld_shared.proofs.Growing.{grows_not, grows_on}
use Rattle.ld_shared.proofs.copying.make_all.Goals as goal

pub records-init : goal.records-init
records-init g c = record { below = omega arith; front = refl; there = omega arith; grows = grows_not _; alone = λ s. (s, inl refl) }

pub records-preserved : goal.records-preserved
records-preserved g c =
    let i = c.records.invariant in
    let e = c.in-Ok-true.ensures in
    let is = ap (λ b. Ok b) c.in-Ok-true.field-0-test in
    let s = e.same is in
    let less = same_below _ _ _ s in record {
      below = omega (arith, less.0, length-map c.args.values.now (λ v. v.items));
      front = front_next _ _ _ _ s e.grows i.there i.front;
      there = omega (arith, less.1);
      grows = grows_on _ _ _ i.grows e.grows;
      alone = λ a. let b = i.alone a in let m = e.alone b.0 i.there in (m.0, alone_next _ _ _ _ _ _ m.1 is i.there i.front b.1);
    }

pub returns-in-Ok-false-clause-all : goal.returns-in-Ok-false-clause-all
returns-in-Ok-false-clause-all g c n is =
    let i = c.records.invariant in
    let e = c.in-Ok-false.ensures in
    let ended = e.ended (ap (λ b. Ok b) c.in-Ok-false.field-0-test) in
    let size = length-map c.args.values.now (λ v. v.items) in
    let same = counted_once c.records.number n is in
    (omega (arith, i.below, ended.0, same), front_whole _ _ _ _ e.grows i.there i.front (omega (arith, i.below, size)) (omega (arith, ended.0, size)) ended.1)

pub returns-in-Ok-false-clause-grows : goal.returns-in-Ok-false-clause-grows
returns-in-Ok-false-clause-grows g c = grows_on _ _ _ c.records.invariant.grows c.in-Ok-false.ensures.grows

pub returns-in-Ok-false-clause-alone : goal.returns-in-Ok-false-clause-alone
returns-in-Ok-false-clause-alone g c a =
    let i = c.records.invariant in
    let e = c.in-Ok-false.ensures in
    let ended = e.ended (ap (λ b. Ok b) c.in-Ok-false.field-0-test) in
    let size = length-map c.args.values.now (λ v. v.items) in
    let m = e.alone (i.alone a).0 i.there in
    (m.0, alone_whole _ _ _ _ (grows_on _ _ _ i.grows e.grows) (omega (arith, i.below, ended.0, size)) (front_whole _ _ _ _ e.grows i.there i.front (omega (arith, i.below, size)) (omega (arith, ended.0, size)) ended.1))

pub returns-in-Err-clause-grows : goal.returns-in-Err-clause-grows
returns-in-Err-clause-grows g c = grows_on _ _ _ c.records.invariant.grows c.in-Err.ensures.grows

pub returns-in-Err-clause-taken : goal.returns-in-Err-clause-taken
returns-in-Err-clause-taken g c n is =
    let i = c.records.invariant in
    let e = c.in-Err.ensures in
    front_other _ _ _ _ _ e.grows i.there i.front (e.taken n (err_as _ _ is))

pub returns-in-Err-clause-alone : goal.returns-in-Err-clause-alone
returns-in-Err-clause-alone g c a =
    let i = c.records.invariant in
    let e = c.in-Err.ensures in
    let b = i.alone a in
    let m = e.alone b.0 i.there in
    (m.0, alone_fails _ _ _ _ _ _ i.grows (omega (arith, i.below, length-map c.args.values.now (λ v. v.items))) b.1 m.1 e.taken)
