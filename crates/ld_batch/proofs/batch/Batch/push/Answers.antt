use Rattle.std.proofs.Common.{◌≡◌, ◌≤◌, ◌∙◌, ap, length, arith, rules, Err}
use Rattle.std.proofs.lemmas.Grind.{common_steps}
use Rattle.ld_batch.specs.Batch.{packed, batch_limit}
use Rattle.ld_batch.specs.declared.fault.PushFault.TheVariants.{NoMemory}
use Rattle.ld_batch.proofs.Packing.{length-packed-push}
use Rattle.ld_batch.proofs.Growing.{is_grown}
use Rattle.ld_batch.proofs.batch.Batch.push.Goals as goal

pub returns-then-long-gt65535-clause-refused : goal.returns-then-long-gt65535-clause-refused
returns-then-long-gt65535-clause-refused c =
    let size : length c.self.inside.bytes.items ≡ length (packed c.args.self.now) = ap length (c.self.invariant.is ∙ ap packed c.self.view_is) in
    grind (arith, common_steps, size, length-packed-push c.args.self.now c.args.message.now)

pub returns-then-count-eq1024-clause-refused : goal.returns-then-count-eq1024-clause-refused
returns-then-count-eq1024-clause-refused c =
    let size : length c.self.inside.bytes.items ≡ length (packed c.args.self.now) = ap length (c.self.invariant.is ∙ ap packed c.self.view_is) in
    grind (arith, common_steps, size, length-packed-push c.args.self.now c.args.message.now)

pub returns-in_err-add_message-clause-refused : goal.returns-in_err-add_message-clause-refused
returns-in_err-add_message-clause-refused c =
    let is : c.from_residual.result ≡ Err NoMemory = search rules in
    let size : length c.self.inside.bytes.items ≡ length (packed c.args.self.now) = ap length (c.self.invariant.is ∙ ap packed c.self.view_is) in
    let most : length c.args.self.now ≤ batch_limit = omega (arith, c.self.invariant.most, ap length c.self.view_is) in
    rw is (grind (arith, common_steps, size, most, length-packed-push c.args.self.now c.args.message.now))

pub invariant_of-self-2 : goal.invariant_of-self-2
invariant_of-self-2 c =
    let size : length c.self.inside.bytes.items ≡ length (packed c.args.self.now) = ap length (c.self.invariant.is ∙ ap packed c.self.view_is) in
    let most : length c.args.self.now ≤ batch_limit = omega (arith, c.self.invariant.most, ap length c.self.view_is) in
    let done = is_grown c.self.inside.bytes.items c.args.self.now c.args.message.now c.add_message.new.out.items c.len-count.result (c.self.invariant.is ∙ ap packed c.self.view_is) (grind (arith, common_steps)) c.in_ok-add_message.ensures.ok
    (grind (arith, common_steps, most)) (grind (arith, common_steps, size)) in
    record { is = done.is; most = omega (arith, done.most, ap length done.listed); short = omega (arith, done.short, ap length done.is, ap (λ l. length (packed l)) done.listed) }

pub returns-clause-ok : goal.returns-clause-ok
returns-clause-ok c =
    let size : length c.self.inside.bytes.items ≡ length (packed c.args.self.now) = ap length (c.self.invariant.is ∙ ap packed c.self.view_is) in
    let most : length c.args.self.now ≤ batch_limit = omega (arith, c.self.invariant.most, ap length c.self.view_is) in
    let done = is_grown c.self.inside.bytes.items c.args.self.now c.args.message.now c.add_message.new.out.items c.len-count.result (c.self.invariant.is ∙ ap packed c.self.view_is) (grind (arith, common_steps)) c.in_ok-add_message.ensures.ok
    (grind (arith, common_steps, most)) (grind (arith, common_steps, size)) in
    done.listed

pub returns-clause-fits : goal.returns-clause-fits
returns-clause-fits c =
    let size : length c.self.inside.bytes.items ≡ length (packed c.args.self.now) = ap length (c.self.invariant.is ∙ ap packed c.self.view_is) in
    let most : length c.args.self.now ≤ batch_limit = omega (arith, c.self.invariant.most, ap length c.self.view_is) in
    let done = is_grown c.self.inside.bytes.items c.args.self.now c.args.message.now c.add_message.new.out.items c.len-count.result (c.self.invariant.is ∙ ap packed c.self.view_is) (grind (arith, common_steps)) c.in_ok-add_message.ensures.ok
    (grind (arith, common_steps, most)) (grind (arith, common_steps, size)) in
    omega (arith, done.short, ap (λ l. length (packed l)) done.listed)

pub returns-clause-most : goal.returns-clause-most
returns-clause-most c =
    let size : length c.self.inside.bytes.items ≡ length (packed c.args.self.now) = ap length (c.self.invariant.is ∙ ap packed c.self.view_is) in
    let most : length c.args.self.now ≤ batch_limit = omega (arith, c.self.invariant.most, ap length c.self.view_is) in
    let done = is_grown c.self.inside.bytes.items c.args.self.now c.args.message.now c.add_message.new.out.items c.len-count.result (c.self.invariant.is ∙ ap packed c.self.view_is) (grind (arith, common_steps)) c.in_ok-add_message.ensures.ok
    (grind (arith, common_steps, most)) (grind (arith, common_steps, size)) in
    omega (arith, done.most, ap length done.listed)
