use Rattle.ld_tests_protocol.proofs.recovery.close.Goals as goal

pub closed-requires-clause-closing : goal.closed-requires-clause-closing
closed-requires-clause-closing c = (c.in-Closing.field-0, c.in-Closing.field-1, (c.state.ensures.closing c.in-Closing.field-0 c.in-Closing.field-1 c.in-Closing.is).closing)
