use Rattle.std.proofs.Common.{◌≡◌, ◌∙◌, ap, sym, subst, ℕ, List, Some}
use Rattle.ld_register.specs.Calls.{unarmed}
use Rattle.ld_register.specs.Stands.{StandsFor}
use Rattle.ld_register.proofs.faulty.FaultyRegister.into_disk.Goals as goal

same_bytes : (a b : List ℕ) → Some a ≡ Some b → a ≡ b
same_bytes a b h = cc

pub returns-clause-holds : goal.returns-clause-holds
returns-clause-holds g c h k = (k.reads.bytes, ap g.D.Disk.seen c.into_disk.ensures ∙ k.reads.seen_is, k.reads.stands)

pub returns-clause-tells : goal.returns-clause-tells
returns-clause-tells g c h p f is = let r = f.foretells.holds.reads in
    subst (λ b. StandsFor b (unarmed h)) (same_bytes r.bytes p.state.bytes (sym r.seen_is ∙ (ap g.D.Disk.seen (sym c.into_disk.ensures) ∙ g.met.D.Disk.plain_is_seen _ p is))) r.stands
