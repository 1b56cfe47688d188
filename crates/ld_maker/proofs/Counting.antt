-- Counts of more lines.
use Rattle.std.proofs.Common.{◌≡◌, ℕ, ◌+◌, ◌<◌, ◌≤◌, ◌^◌, List, ◌++◌, length, Bool, cond, arith}
use Rattle.std.specs.List.{count_by}
use Rattle.std.proofs.lemmas.List.Sums.{count_by-le-length, sum_by-append}
use Rattle.ld_transcript.specs.declared.line.Line.{Line}
use Rattle.ld_maker.specs.Tally.{HasRoom, more_lines, tally, is_appended, is_acked, is_record, is_trim, is_hole, is_bridge, is_data_loss}
use Rattle.ld_maker.specs.declared.tally.Tally.{Tally}

count_by-append : (p : Line → Bool) (xs ys : List Line) → count_by p (xs ++ ys) ≡ count_by p xs + count_by p ys
count_by-append p xs ys = sum_by-append (λ x. cond (p x) 1 0) xs ys

pub tally-append : (xs ys : List Line) → tally (xs ++ ys) ≡ more_lines (tally xs) ys
tally-append xs ys = grind (arith, count_by-append)

fits : (p : Line → Bool) (t n m : ℕ) (xs : List Line) → t + (n + m) < 2 ^ 128 → length xs ≤ m → t + count_by p xs + n < 2 ^ 128
fits p t n m xs room few = omega (arith, room, few, count_by-le-length p xs)

-- where there is room for these lines and n more, there is room for n behind them
pub more_room : (t : Tally) (n m : ℕ) (xs : List Line) → HasRoom t (n + m) → length xs ≤ m → HasRoom (more_lines t xs) n
more_room t n m xs room few =
    record {
      appended = fits is_appended t.appended n m xs room.appended few;
      acked = fits is_acked t.acked n m xs room.acked few;
      records = fits is_record t.records n m xs room.records few;
      trims = fits is_trim t.trims n m xs room.trims few;
      holes = fits is_hole t.holes n m xs room.holes few;
      bridges = fits is_bridge t.bridges n m xs room.bridges few;
      data_losses = fits is_data_loss t.data_losses n m xs room.data_losses few;
    }

pub less_room : (t : Tally) (n m : ℕ) → HasRoom t m → n ≤ m → HasRoom t n
less_room t n m room few =
    record {
      appended = omega (arith, room.appended, few);
      acked = omega (arith, room.acked, few);
      records = omega (arith, room.records, few);
      trims = omega (arith, room.trims, few);
      holes = omega (arith, room.holes, few);
      bridges = omega (arith, room.bridges, few);
      data_losses = omega (arith, room.data_losses, few);
    }
