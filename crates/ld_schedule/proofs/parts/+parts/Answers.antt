use Rattle.std.proofs.Common.{rules, ◌<◌, ◌^◌, sym, subst, arith, length, Err}
use Rattle.ld_schedule.specs.Reading.{IsRead}
use Rattle.ld_schedule.specs.Grammar.{AreParts, messages_text}
use Rattle.ld_schedule.proofs.MessageLists.{fault_one, fault_message, fault_full, fault_others, more_read, line_room}
use Rattle.ld_schedule.proofs.parts.+parts.Goals as goal

pub returns-in-Err : goal.returns-in-Err
returns-in-Err t c = fault_one c.args.most c.args.line.now c.in-Err.fault c.requires.0 c.in_default.ensures.none c.in-Err.ensures

pub returns-in-Err-parse_payload : goal.returns-in-Err-parse_payload
returns-in-Err-parse_payload t c =
    fault_message c.args.most c.args.line.now c.in-Some.front.now c.in-Some.rest.now c.in-Err-parse_payload.fault c.requires.0 c.in-Some.ensures.found.1 c.in-Some.ensures.found.0 c.in-Err-parse_payload.ensures

pub returns-then-most-eq1 : goal.returns-then-most-eq1
returns-then-most-eq1 t c =
    fault_full c.args.most c.in-Ok-parse_payload.message c.args.line.now c.in-Some.front.now c.in-Some.rest.now c.in-Some.ensures.found.1 c.in-Some.ensures.found.0 c.in-Ok-parse_payload.ensures c.if-most-eq1.true

pub push_front-requires : goal.push_front-requires
push_front-requires t c =
    let read = more_read c.args.most c.in-Ok-parse_payload.message c.args.line.now c.in-Some.front.now c.in-Some.rest.now c.in-Ok-parts.others c.in-Some.ensures.found.1 c.in-Ok-parse_payload.ensures c.in-Ok-parts.ensures in
    let room = line_room c.args.most c.args.line.now _ read in
    let bound : length c.args.line.now < 2 ^ 63 = search rules in
    omega (arith, room, bound, c.requires.1)

pub returns-in-Err-parts : goal.returns-in-Err-parts
returns-in-Err-parts t c =
    subst (λ f. IsRead (AreParts c.args.most) messages_text c.args.line.now (Err f)) (sym c.further.ensures)
    (fault_others c.args.most c.in-Ok-parse_payload.message c.args.line.now c.in-Some.front.now c.in-Some.rest.now c.in-Err-parts.fault c.in-Some.ensures.found.1 c.in-Some.ensures.found.0 c.in-Ok-parse_payload.ensures c.in-Err-parts.ensures)
