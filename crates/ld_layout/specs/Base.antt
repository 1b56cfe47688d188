-- The body with which a later segment begins: the index, and the older areas that payloads stand in; and how bytes are judged.
use Rattle.std.specs.Prelude.{ℕ, Bool, List, [], ◌∷◌, ◌++◌, length, ◌||◌, ◌==◌, nat_le}
use Rattle.byteorder.specs.Endian.{big_bytes}
use Rattle.ld_fields.specs.Fields.{Read, Got, follow, check, field, end_at}
use Rattle.ld_msg.specs.Bounds.{Is64}
use Rattle.ld_op.specs.Plain.{Plain}
use Rattle.ld_op.specs.Indexed.{index_bytes, read_index, read_table}

abbrev pub areas_based : List (ℕ × ℕ) → List ℕ
areas_based [] = []
areas_based (a ∷ areas) = big_bytes 8 a.0 ++ (big_bytes 8 a.1 ++ areas_based areas)

-- the first byte is 13, or 14 where the segment's room grows with its Base, or 15 where it is also wide; in a journal of the first version, in which no epoch was closed with a loss, it is 9
unfoldable pub base_bytes : ℕ → Plain → List (ℕ × ℕ) → List ℕ
base_bytes kind p areas = big_bytes 1 kind ++ (index_bytes p ++ (big_bytes 4 (length areas) ++ areas_based areas))

-- an index, and the areas in which its payloads stand
pub record Base : Type 0 where
  pub kind : ℕ
  pub index : Plain
  pub areas : List (ℕ × ℕ)

unfoldable pub read_area : List ℕ → ℕ → ℕ → Read (ℕ × ℕ)
read_area bs least at = follow (field 8 bs at) (λ place at_length. check (nat_le least place) at (follow (field 8 bs at_length) (λ length next. Got (place, length) next)))

-- the first bytes of a Base of the second version
abbrev pub is_second_kind : ℕ → Bool
is_second_kind kind = (kind == 13) || ((kind == 14) || (kind == 15))

abbrev pub is_base_kind : ℕ → Bool
is_base_kind kind = (kind == 9) || is_second_kind kind

-- the whole body, by its first byte
unfoldable pub judge_base : List ℕ → Read Base
judge_base bs =
    follow (field 1 bs 0) (λ kind at. check (is_base_kind kind) 0 (
    follow (read_index bs (kind == 9) at) (λ index at_areas. follow (read_table bs (read_area bs) at_areas) (λ areas next. end_at bs next (record { kind = kind; index = index; areas = areas })))))

-- an offset and a length that fit their fields
pub record IsBasedArea (a : ℕ × ℕ) : Type 0 where
  pub place : Is64 a.0
  pub length : Is64 a.1
