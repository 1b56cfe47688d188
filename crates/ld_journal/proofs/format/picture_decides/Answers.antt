use Rattle.ld_journal.proofs.Pictured.{pictures_decide}
use Rattle.ld_journal.proofs.format.picture_decides.Goals as goal

pub returns : goal.returns
returns c bodies body after gate place call how later p shut place_is fits short safe told most = pictures_decide bodies body after gate place shut place_is fits short call how later p safe told most
