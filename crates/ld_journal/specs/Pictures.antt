-- What a fault in an append leaves of a journal, by the call in which it comes and the pictures of the crashes since then.
use Rattle.std.specs.Prelude.{◌≡◌, ℕ, ◌+◌, List, [], ◌∷◌, ◌++◌, Bool, true, false, ◌&&◌, ◌||◌, ◌==◌, Option, None, Some, is_some}
use Rattle.ld_disk.specs.Images.{overwrite}
use Rattle.ld_disk.specs.Record.{State, state_of, synced}
use Rattle.ld_disk.specs.declared.disk.Picture.{Picture}
use Rattle.ld_disk.specs.declared.disk.Picture.TheVariants as pictures
use Rattle.ld_journal.specs.Format.{behind}

-- a picture in which a gate that was opened last is open
abbrev pub shows_gate : Picture → Bool
shows_gate pictures.Old = false
shows_gate pictures.New = true
shows_gate (pictures.Byte b) = b == 1

-- the gate is written by the third of the four calls and synced by the fourth; a call that fails changes nothing
abbrev pub wrote_gate : ℕ → Bool → Bool
wrote_gate call crashed = (call == 4) || (crashed && (call == 3))

-- of several crashes, the newest first, the last one decides, and without one the gate is as it was written
abbrev pub gate_reads : List Picture → Bool
gate_reads [] = true
gate_reads (picture ∷ pictures) = shows_gate picture

-- the pictures of all crashes from that call on, its own included
abbrev pub seen_by : Option Picture → List Picture → List Picture
seen_by None later = later
seen_by (Some picture) later = later ++ picture ∷ []

-- whether the new body is there after a fault in this call, which fails or crashes with this picture, and these later crashes
abbrev pub is_there : ℕ → Option Picture → List Picture → Bool
is_there call how later = wrote_gate call (is_some how) && gate_reads (seen_by how later)

-- a disk on which all that is read is safe
abbrev pub IsSafe : List ℕ → State → Type 0
IsSafe bytes s = s ≡ state_of bytes [] bytes

-- after crashes in syncs, the newest first
abbrev pub crashed_by : List Picture → State → State
crashed_by [] s = s
crashed_by (picture ∷ pictures) s = synced (Some picture) (crashed_by pictures s)

-- the bytes after an append at this offset
abbrev pub appended : ℕ → List ℕ → List ℕ → List ℕ
appended place body bytes = overwrite place (1 ∷ []) (overwrite (place + 1) (behind body) bytes)
