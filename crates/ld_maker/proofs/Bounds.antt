-- The made configuration is in its bounds.
use Rattle.std.proofs.Common.{refl, arith}
use Rattle.ld_ids.specs.Set.{members_from}
use Rattle.ld_config.specs.Bounds.{IsInBounds}
use Rattle.ld_maker.specs.Made.{made_config}

pub made_in_bounds : IsInBounds made_config
unfolding members_from
made_in_bounds =
    record {
      nodes = refl;
      some_node = omega arith;
      some_log = omega arith;
      few_logs = omega arith;
      specs = (
        record { log = (omega arith, omega arith); set = refl; within = λ node is. is; least = omega arith; most = omega arith; few = omega arith },
        refl,
        tt,
      );
    }
