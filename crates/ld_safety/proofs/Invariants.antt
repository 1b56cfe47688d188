-- The invariant holds in every state of every run, and all else that is said of them.
use Rattle.ld_machine.specs.Run.{InvariantHolds}
use Rattle.ld_safety.specs.Together.{AllHold}
use Rattle.ld_safety.proofs.Sequencing as sequencing
use Rattle.ld_safety.proofs.HandedLaws as handed_laws
use Rattle.ld_safety.proofs.Issued as issued
use Rattle.ld_safety.proofs.Released as released
use Rattle.ld_safety.proofs.Holding as holding
use Rattle.ld_safety.proofs.Entries as entries
use Rattle.ld_safety.proofs.Retained as retained
use Rattle.ld_safety.proofs.Agreed as agreed
use Rattle.ld_safety.proofs.Standing as standing
use Rattle.ld_safety.proofs.Rebuilt as rebuilt
use Rattle.ld_safety.proofs.Closes as closes
use Rattle.ld_safety.proofs.OneCopy as copies
use Rattle.ld_safety.proofs.LostLaws as laws

invariant_holds : InvariantHolds
invariant_holds c es b = record {
  sequencers = sequencing.epochs_are_drawn_once c es;
  generations = handed_laws.generations_are_drawn_once c es;
  ballots = handed_laws.ballots_were_drawn c es;
  summaries = handed_laws.summaries_agree c es;
  trims = issued.trims_are_issued_points c es;
  open_trims = released.open_trims_cover_acknowledged c es b;
  released = released.releases_cover_acknowledged c es b;
  held = holding.what_is_held_was_sent c es;
  one_plan = holding.plans_are_made_once c es;
  entries = entries.entries_are_items c es b;
  retains = retained.stored_stays c es;
  seals = retained.seals_hold c es;
  agrees = agreed.recoveries_agree c es;
  stands = standing.what_stands_is_followed c es;
  losses = agreed.losses_were_gone c es;
  losses_last = agreed.losses_are_last c es;
  losses_say = agreed.losses_say_so c es;
  copies = entries.all_copies_stand c es b;
  lost_once = rebuilt.rebuilt_once c es;
}

pub all_hold : AllHold
all_hold = record {
  invariant = invariant_holds;
  beside = λ c ms b. record { closes = closes.full_or_short c ms; closes_say = closes.closes_say c ms; lost_in_lines = rebuilt.lost_stands_in_lines c ms; one_sends = copies.one_node_sends c ms };
  lost_once = laws.lost_once;
  whole_stays = rebuilt.whole_stays;
}
