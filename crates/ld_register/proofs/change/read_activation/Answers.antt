use Rattle.std.proofs.Common.{◌∙◌, ap, sym, subst, refl, arith, get_or}
use Rattle.std.specs.Int.{w16, w32, to_be_bytes}
use Rattle.ld_ids.specs.Set.{IsSet}
use Rattle.ld_register.proofs.Bytes.{activation_is, no_activation, bits_are_set}
use Rattle.ld_register.proofs.change.read_activation.Goals as goal

pub returns-in_default-clause-none : goal.returns-in_default-clause-none
returns-in_default-clause-none c = no_activation c.args.body.now c.word-epoch.result (record { log = c.word-number.result; set = c.from_bits-set.result; r = get_or c.args.body.now 11 0; extras = get_or c.args.body.now 12 0 }) c.requires.len (activation_is c.args.body.now c.word-epoch.result (record { log = c.word-number.result; set = c.from_bits-set.result; r = get_or c.args.body.now 11 0; extras = get_or c.args.body.now 12 0 }) c.requires.len c.requires.kind c.word-number.ensures c.word-epoch.ensures (ap (to_be_bytes w16) c.from_bits-set.ensures.back ∙ c.half_word.ensures) refl refl)
    c.word-number.type_inv c.word-epoch.type_inv (subst IsSet (sym c.from_bits-set.ensures.flags) (bits_are_set c.half_word.result)) (λ e i. c.in_default.ensures.none i.log)

pub returns-then-epoch-eq0-clause-none : goal.returns-then-epoch-eq0-clause-none
returns-then-epoch-eq0-clause-none c = no_activation c.args.body.now c.word-epoch.result (record { log = c.word-number.result; set = c.from_bits-set.result; r = get_or c.args.body.now 11 0; extras = get_or c.args.body.now 12 0 }) c.requires.len (activation_is c.args.body.now c.word-epoch.result (record { log = c.word-number.result; set = c.from_bits-set.result; r = get_or c.args.body.now 11 0; extras = get_or c.args.body.now 12 0 }) c.requires.len c.requires.kind c.word-number.ensures c.word-epoch.ensures (ap (to_be_bytes w16) c.from_bits-set.ensures.back ∙ c.half_word.ensures) refl refl)
    c.word-number.type_inv c.word-epoch.type_inv (subst IsSet (sym c.from_bits-set.ensures.flags) (bits_are_set c.half_word.result)) (λ e i. let o = c.then-epoch-eq0.either in let a = e.0 in let b = e.1 in omega arith)

pub returns-then-not-may_be_fixed-clause-none : goal.returns-then-not-may_be_fixed-clause-none
returns-then-not-may_be_fixed-clause-none c = let log = c.in-Some.ensures.some in let small = c.word-number.type_inv in
    no_activation c.args.body.now c.word-epoch.result (record { log = c.in-Some.log; set = c.from_bits-set.result; r = get_or c.args.body.now 11 0; extras = get_or c.args.body.now 12 0 }) c.requires.len (activation_is c.args.body.now c.word-epoch.result (record { log = c.in-Some.log; set = c.from_bits-set.result; r = get_or c.args.body.now 11 0; extras = get_or c.args.body.now 12 0 }) c.requires.len c.requires.kind (ap (to_be_bytes w32) log ∙ c.word-number.ensures) c.word-epoch.ensures (ap (to_be_bytes w16) c.from_bits-set.ensures.back ∙ c.half_word.ensures) refl refl)
    (omega arith) c.word-epoch.type_inv (subst IsSet (sym c.from_bits-set.ensures.flags) (bits_are_set c.half_word.result)) (λ e i. c.may_be_fixed.ensures.no c.if-not-may_be_fixed.true i)

pub returns-clause-some : goal.returns-clause-some
returns-clause-some c = record {
  bytes = activation_is c.args.body.now c.word-epoch.result (record { log = c.in-Some.log; set = c.from_bits-set.result; r = get_or c.args.body.now 11 0; extras = get_or c.args.body.now 12 0 }) c.requires.len c.requires.kind (ap (to_be_bytes w32) c.in-Some.ensures.some ∙ c.word-number.ensures) c.word-epoch.ensures (ap (to_be_bytes w16) c.from_bits-set.ensures.back ∙ c.half_word.ensures) refl refl;
  is = (let z = c.if-epoch-eq0.false in let m = c.if-epoch-gt-GREATEST_EPOCH.false in (omega arith, omega arith), c.may_be_fixed.ensures.yes c.if-not-may_be_fixed.false);
}
