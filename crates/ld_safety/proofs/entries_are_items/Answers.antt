use Rattle.ld_safety.proofs.Entries as entries
use Rattle.ld_safety.proofs.entries_are_items.Goals as goal

pub returns : goal.returns
returns c = λ k es b. entries.entries_are_items k es b
