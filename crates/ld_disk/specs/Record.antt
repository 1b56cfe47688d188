-- A disk in memory as its record of writing calls tells it.
use Rattle.std.specs.Prelude.{◌≡◌, ◌⊎◌, ℕ, zero, suc, ◌+◌, max, min, List, [], ◌∷◌, ◌++◌, length, take, drop, replicate, Option, None, Some}
use mathlib.Core.Logic.{inr}
use Rattle.ld_disk.specs.Images.{overwrite, Torn}
use Rattle.ld_disk.specs.declared.disk.Picture.{Picture}
use Rattle.ld_disk.specs.declared.disk.Picture.TheVariants as pictures
use Rattle.ld_disk.specs.declared.entry.Piece.{Piece}
use Rattle.ld_disk.specs.declared.entry.Entry.{Entry}
use Rattle.ld_disk.specs.declared.entry.Entry.TheVariants as entries

-- an offset, and the bytes that were written there
abbrev pub Write : Type 0
Write = ℕ × List ℕ

-- the bytes that are safe, the writes since the last successful sync, and what a read gives
pub record State : Type 0 where
  pub stable : List ℕ
  pub pending : List Write
  pub bytes : List ℕ

-- what a crash may leave: each write torn, one after the other
abbrev pub IsImage : List ℕ → List Write → List ℕ → Type 0
IsImage stable [] c = c ≡ stable
IsImage stable (w ∷ ws) c = (d : List ℕ) × Torn w.0 (length w.1) stable d × IsImage d ws c

-- one write as a picture has it
abbrev pub made : Picture → Write → List ℕ → List ℕ
made pictures.Old w bytes = bytes
made pictures.New w bytes = overwrite w.0 w.1 bytes
made (pictures.Byte b) w bytes = overwrite w.0 (replicate (length w.1) b) bytes

-- all the writes as a picture has them
abbrev pub painted : Picture → List ℕ → List Write → List ℕ
painted picture bytes [] = bytes
painted picture bytes (w ∷ ws) = painted picture (made picture w bytes) ws

-- what is read after a call in which the disk crashed, or didn't
abbrev pub read_after : Option Picture → List ℕ → List Write → List ℕ → List ℕ
read_after None stable ws bytes = bytes
read_after (Some picture) stable ws bytes = painted picture stable ws

abbrev pub torn_by : Option Picture → State → State
torn_by crash s = record { stable = s.stable; pending = s.pending; bytes = read_after crash s.stable s.pending s.bytes }

abbrev pub written : Write → State → State
written w s = record { stable = s.stable; pending = s.pending ++ w ∷ []; bytes = overwrite w.0 w.1 s.bytes }

-- a sync makes what is read safe, unless the disk crashes in it
abbrev pub synced : Option Picture → State → State
synced None s = record { stable = s.bytes; pending = []; bytes = s.bytes }
synced (Some picture) s = torn_by (Some picture) s

-- a new disk
abbrev pub start : State
start = record { stable = 0 ∷ []; pending = []; bytes = 0 ∷ [] }

module _ (arena : List ℕ) where
  abbrev pub piece_of : Piece → Write
  piece_of piece = (piece.at, take piece.len (drop piece.from arena))

  abbrev pub pieces : List Piece → List Write
  pieces [] = []
  pieces (p ∷ ps) = piece_of p ∷ pieces ps

  abbrev pub step : State → Entry → State
  step s (entries.Write p crash) = torn_by crash (written (piece_of p) s)
  step s (entries.Sync crash) = synced crash s

  -- the disk after these calls
  abbrev pub run : State → List Entry → State
  run s [] = s
  run s (e ∷ es) = run (step s e) es

-- how many kept bytes the writes of these calls need
abbrev pub extent : List Entry → ℕ
extent [] = 0
extent (entries.Write p crash ∷ es) = max (p.from + p.len) (extent es)
extent (entries.Sync crash ∷ es) = extent es

-- what a crash may leave of it: what is read, or what is safe with the writes since then torn
abbrev pub leaves : State → List ℕ → Type 0
leaves s c = (c ≡ s.bytes) ⊎ IsImage s.stable s.pending c

-- what a crash may have left at one of the moments from t on, before one of these calls or after them
abbrev pub LeftFrom : List ℕ → State → List Entry → ℕ → List ℕ → Type 0
LeftFrom arena s [] t c = leaves s c
LeftFrom arena s (e ∷ es) zero c = leaves s c ⊎ LeftFrom arena (step arena s e) es zero c
LeftFrom arena s (e ∷ es) (suc t) c = LeftFrom arena (step arena s e) es t c

-- a moment counts among those since an earlier one
pub now_counts : (arena : List ℕ) (s : State) (es : List Entry) (t : ℕ) (c : List ℕ) → leaves (run arena s es) c → LeftFrom arena s es t c
now_counts arena s [] t c now = now
now_counts arena s (e ∷ es) zero c now = inr (now_counts arena (step arena s e) es zero c now)
now_counts arena s (e ∷ es) (suc t) c now = now_counts arena (step arena s e) es t c now

-- since the last moment there is no other
pub only_last : (arena : List ℕ) (s : State) (es : List Entry) (c : List ℕ) → LeftFrom arena s es (length es) c → leaves (run arena s es) c
only_last arena s [] c left = left
only_last arena s (e ∷ es) c left = only_last arena (step arena s e) es c left

abbrev pub state_of : List ℕ → List Write → List ℕ → State
state_of stable pending bytes = record { stable = stable; pending = pending; bytes = bytes }

-- how many kept bytes these pieces need, and up to which offset they write
abbrev pub needed : List Piece → ℕ
needed [] = 0
needed (p ∷ ps) = max (p.from + p.len) (needed ps)

abbrev pub farthest : List Piece → ℕ
farthest [] = 0
farthest (p ∷ ps) = max (p.at + p.len) (farthest ps)

-- the least of this offset and those of these writes
abbrev pub nearest : ℕ → List Piece → ℕ
nearest n [] = n
nearest n (p ∷ ps) = min p.at (nearest n ps)
