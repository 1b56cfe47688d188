-- What the bytes on a host's disk represent.
use Rattle.std.proofs.Common.{◌≡◌, ℕ, None, sym, ◌∙◌, subst}
use Rattle.ld_disk.specs.Plain.{Plain as DiskPlain}
use Rattle.ld_segment.specs.Lies.{StandsFor}
use Rattle.ld_config.specs.declared.config.Config.{Config}
use Rattle.ld_machine.specs.Disk.{Node, Blank, Up, Down, Failed, found, found_layout}
use Rattle.ld_host.specs.declared.state.State.{State}
use Rattle.ld_host.specs.declared.state.State.TheVariants as states
use Rattle.ld_host.specs.States.{disk_in}
use Rattle.ld_host.specs.Lies.{Lies}
use Rattle.ld_host.specs.Stands.{StandsAs, HasBytesOf}
use Rattle.ld_host.proofs.Loading.{finds, stands_for}

bytes_of : (p : DiskPlain) (x : Node) → Lies p x → x.cut ≡ None → StandsFor x.plain p.state.bytes
bytes_of p x lies whole = subst (λ k. StandsFor (found x k) p.state.bytes) whole (stands_for p.state.bytes (found x x.cut) (found_layout x x.cut) (finds p x lies))

blank_not_up : Blank ≡ Up → ⊥
blank_not_up is = absurd (cc is)

down_not_up : Down ≡ Up → ⊥
down_not_up is = absurd (cc is)

failed_not_up : Failed ≡ Up → ⊥
failed_not_up is = absurd (cc is)

pub has_bytes : (c : Config) (n : ℕ) (s : State) (x : Node) → StandsAs c n s x → x.status ≡ Up → HasBytesOf x.plain (disk_in s)
has_bytes c n (states.Blank m) x stands up = absurd (blank_not_up (sym stands.status ∙ up))
has_bytes c n (states.Up node) x stands up = bytes_of _ x stands.lies stands.cut
has_bytes c n (states.Down m) x stands up = absurd (down_not_up (sym stands.is ∙ up))
has_bytes c n (states.Failed m) x stands up = absurd (failed_not_up (sym stands.is ∙ up))
has_bytes c n states.Gone x stands up = absurd stands
