use Rattle.std.proofs.Common.{◌∙◌, ap, refl, sym, subst}
use Rattle.ld_disk.specs.Images.{IsHonest}
use Rattle.ld_register.proofs.Meeting.{leaves_by, foretells_empty, tells_unloaded, holds_unloaded, foretells_unloaded}
use Rattle.ld_register.proofs.disk.DiskRegister.new.Goals as goal

pub returns-clause-told : goal.returns-clause-told
returns-clause-told g c h = tells_unloaded _ (subst IsHonest (ap g.D.Disk.seen (sym c.shut.ensures.disk)) h) refl

pub returns-clause-holds : goal.returns-clause-holds
returns-clause-holds g c h bytes is stands = holds_unloaded _ h (record { bytes = bytes; seen_is = ap g.D.Disk.seen c.shut.ensures.disk ∙ is; stands = stands }) refl

pub returns-clause-leaves : goal.returns-clause-leaves
returns-clause-leaves g c cs each = leaves_by g.met.D.Disk.reads_an_image _ cs (λ bytes m. each bytes (subst (λ d. g.D.Disk.may_leave d bytes) c.shut.ensures.disk m))

pub returns-clause-tells : goal.returns-clause-tells
returns-clause-tells g c h p is quiet stands = foretells_unloaded _ h p (record { bytes = p.state.bytes; seen_is = ap g.D.Disk.seen c.shut.ensures.disk ∙ g.met.D.Disk.plain_is_seen _ p is; stands = stands }) refl (ap g.D.Disk.plain c.shut.ensures.disk ∙ is) quiet

pub returns-clause-empty : goal.returns-clause-empty
returns-clause-empty g c is = foretells_empty g.met.D.Disk.plain_is_seen _ refl (ap g.D.Disk.plain c.shut.ensures.disk ∙ is)
