use Rattle.std.proofs.Common.{◌≡◌, ◌+◌, ◌-◌, min, length, take, drop, subst, sym, ap, ◌∙◌, arith, List, ℕ}
use Rattle.std.specs.Prelude.{IfSome}
use Rattle.ld_journal.specs.Rest.{BeginsWith}
use Rattle.ld_journal.proofs.Bodies.{body_is, whole}
use Rattle.ld_journal.proofs.read.read_body.Goals as goal

pub returns-clause-body : goal.returns-clause-body
returns-clause-body g c ok front rest parted len_is is =
    let count = c.in_ok-count.count in
    let buf = c.read.new.buf in
    let lent : length c.deref_mut.result.now ≡ c.args.size = omega (arith, c.deref_mut.ensures.len, c.in_ok-make_zeros.ensures.made) in
    let full : length buf ≡ c.args.size = c.in_ok-count.ensures.len ∙ lent in
    let bytes = subst (λ o. IfSome o (λ l. (count ≡ min (length l - (c.args.at + 5)) (length c.deref_mut.result.now)) × (take count buf ≡ take count (drop (c.args.at + 5) l)))) parted.bytes c.in_ok-count.ensures.bytes in
    let begins = body_is front rest buf c.args.at c.args.len c.args.size count parted.place_is len_is c.ranges.size.fits (omega (arith, c.saturating_sub.ensures, c.if-saturating_sub-size.false)) is full c.if-count-size.false
    (omega (arith, bytes.0, c.in_ok-count.ensures.len), bytes.1) in
    let same = whole buf c.make_zeros.new.bytes.items c.make_zeros.new.bytes.len (omega (arith, full, c.in_ok-make_zeros.ensures.made)) in
    (subst (λ (l : List ℕ). BeginsWith l rest) (sym same) begins, ap length same ∙ full)

pub returns-clause-long : goal.returns-clause-long
returns-clause-long g c =
    let full : length c.read.new.buf ≡ c.args.size = omega (arith, c.in_ok-count.ensures.len, c.deref_mut.ensures.len, c.in_ok-make_zeros.ensures.made) in
    ap length (whole c.read.new.buf c.make_zeros.new.bytes.items c.make_zeros.new.bytes.len (omega (arith, full, c.in_ok-make_zeros.ensures.made))) ∙ full
