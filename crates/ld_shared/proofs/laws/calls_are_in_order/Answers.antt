use Rattle.std.proofs.Common.{inr, refl}
use Rattle.ld_shared.proofs.Together.{one_more}
use Rattle.ld_shared.proofs.laws.calls_are_in_order.Goals as goal

pub returns-clause-activations : goal.returns-clause-activations
returns-clause-activations g c old new values calls spec grant a grows = one_more g.C.Records old new values calls _ grant _ _ a grows (λ b told. inr (told, refl))

pub returns-clause-closes : goal.returns-clause-closes
returns-clause-closes g c old new values calls l e y short next a grows = one_more g.C.Records old new values calls _ next _ _ a grows (λ b told. inr (told, refl))

pub returns-clause-draws : goal.returns-clause-draws
returns-clause-draws g c old new values calls n given a grows = one_more g.C.Records old new values calls _ given _ _ a grows (λ b told. inr (told, refl))

pub returns-clause-swaps : goal.returns-clause-swaps
returns-clause-swaps g c old new values calls l upto member spare count a grows = one_more g.C.Records old new values calls _ count _ _ a grows (λ b told. inr (told, refl))

pub returns-clause-looks : goal.returns-clause-looks
returns-clause-looks g c old new values calls l e view a grows = one_more g.C.Records old new values calls _ view _ _ a grows (λ b told. inr (told, refl))
