use Rattle.std.proofs.Common.{◌≡◌, ◌∙◌, refl, ap, sym, arith, length, length-set, set, get_or, List}
use Rattle.ld_msg.specs.Digest.{Told}
use Rattle.ld_digest.proofs.Changed.{anew_to, one_anew, none_anew, all_anew}
use Rattle.ld_digest.proofs.digest.ask_each_anew.Goals as goal

pub loop-place-init : goal.loop-place-init
loop-place-init c = (sym (none_anew c.args.epoch c.args.good c.args.told.now.items), refl)

pub loop-place-preserved : goal.loop-place-preserved
loop-place-preserved c =
    let d : List Told = c.args.told.now.items in
    let e = c.loop-place.invariant.0 in (
      ap (λ (l : List Told). set l c.loop-place.place c.ask_anew.new.self) e
          ∙ one_anew c.args.epoch c.args.good d c.loop-place.place c.index_mut.result.now c.ask_anew.new.self (omega arith) (c.index_mut.ensures.value ∙ ap (λ (l : List Told). get_or l c.loop-place.place c.index_mut.result.now) e) c.ask_anew.ensures,
      length-set c.loop-place.told.items c.loop-place.place c.ask_anew.new.self ∙ c.loop-place.invariant.1,
    )

pub returns : goal.returns
returns c =
    let end : c.loop-place.place ≡ length c.args.told.now.items = omega arith in
    c.loop-place.invariant.0 ∙ (ap (anew_to c.args.epoch c.args.good c.args.told.now.items) end ∙ all_anew c.args.epoch c.args.good c.args.told.now.items)
