use Rattle.std.proofs.Common.{Ok, map, refl, ap, ◌∙◌}
use Rattle.ld_shared.proofs.Copied.{copied_none}
use Rattle.ld_shared.proofs.copying.copied.Goals as goal

pub records-init : goal.records-init
records-init g c = record { same = refl; copied = λ bytes is some len. copied_none bytes _ some (ap (λ l. map (λ v. v.items) l) c.new-values.ensures.items) }

pub records-preserved : goal.records-preserved
records-preserved g c = let i = c.records.invariant in record {
  same = c.in-Ok-Some.ensures.same ∙ i.same;
  copied = λ bytes is some len. c.in-Ok-Some.ensures.more c.in-Ok-Some.next bytes (ap (λ o. Ok o) c.in-Ok-Some.field-0-is) (i.same ∙ is) len (i.copied bytes is some len);
}

pub returns-in-Ok-None : goal.returns-in-Ok-None
returns-in-Ok-None g c bytes is some len = let i = c.records.invariant in c.in-Ok-None.ensures.ended bytes (ap (λ o. Ok o) c.in-Ok-None.field-0-is) (i.same ∙ is) (i.copied bytes is some len)
