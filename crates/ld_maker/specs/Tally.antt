-- How many lines of some words a transcript has, and the line that says it.
use Rattle.std.specs.Prelude.{ℕ, ◌+◌, ◌<◌, ◌^◌, List, ◌++◌, codes, decimal, Bool, true, false}
use Rattle.std.specs.List.{count_by}
use Rattle.ld_transcript.specs.declared.line.GapKind.TheVariants as gaps
use Rattle.ld_transcript.specs.declared.line.Line.{Line}
use Rattle.ld_transcript.specs.declared.line.Line.TheVariants as lines
use Rattle.ld_maker.specs.declared.tally.Tally.{Tally}

abbrev pub is_appended : Line → Bool
is_appended (lines.Appended name number) = true
is_appended _ = false

abbrev pub is_acked : Line → Bool
is_acked (lines.Acked name number) = true
is_acked _ = false

abbrev pub is_record : Line → Bool
is_record (lines.Record name number payload) = true
is_record _ = false

abbrev pub is_trim : Line → Bool
is_trim (lines.Gap name gaps.Trim low high) = true
is_trim _ = false

abbrev pub is_hole : Line → Bool
is_hole (lines.Gap name gaps.Hole low high) = true
is_hole _ = false

abbrev pub is_bridge : Line → Bool
is_bridge (lines.Gap name gaps.Bridge low high) = true
is_bridge _ = false

abbrev pub is_data_loss : Line → Bool
is_data_loss (lines.Gap name gaps.DataLoss low high) = true
is_data_loss _ = false

-- no lines so far
abbrev pub no_lines : Tally
no_lines = record { appended = 0; acked = 0; records = 0; trims = 0; holes = 0; bridges = 0; data_losses = 0 }

-- the counts with those of these lines
abbrev pub more_lines : Tally → List Line → Tally
more_lines t ls =
    record {
      appended = t.appended + count_by is_appended ls;
      acked = t.acked + count_by is_acked ls;
      records = t.records + count_by is_record ls;
      trims = t.trims + count_by is_trim ls;
      holes = t.holes + count_by is_hole ls;
      bridges = t.bridges + count_by is_bridge ls;
      data_losses = t.data_losses + count_by is_data_loss ls;
    }

-- the counts of a transcript's lines
abbrev pub tally : List Line → Tally
tally ls =
    record {
      appended = count_by is_appended ls;
      acked = count_by is_acked ls;
      records = count_by is_record ls;
      trims = count_by is_trim ls;
      holes = count_by is_hole ls;
      bridges = count_by is_bridge ls;
      data_losses = count_by is_data_loss ls;
    }

-- so many lines more can be counted
pub record HasRoom (t : Tally) (n : ℕ) : Type 0 where
  pub appended : t.appended + n < 2 ^ 128
  pub acked : t.acked + n < 2 ^ 128
  pub records : t.records + n < 2 ^ 128
  pub trims : t.trims + n < 2 ^ 128
  pub holes : t.holes + n < 2 ^ 128
  pub bridges : t.bridges + n < 2 ^ 128
  pub data_losses : t.data_losses + n < 2 ^ 128

-- a word and its count
abbrev pub counted : List ℕ → ℕ → List ℕ
counted word n = word ++ decimal n

-- the one line of a summary, of a run of so many events
abbrev pub summary : ℕ → Tally → List ℕ
summary events t =
    counted (codes "events ") events
    ++ counted (codes " appended ") t.appended
    ++ counted (codes " acked ") t.acked
    ++ counted (codes " record ") t.records
    ++ counted (codes " trim ") t.trims
    ++ counted (codes " hole ") t.holes
    ++ counted (codes " bridge ") t.bridges
    ++ counted (codes " dataloss ") t.data_losses
    ++ codes "\n"
