use Rattle.ld_rounds.proofs.News.{no_news}
use Rattle.ld_rounds.proofs.laws.drives_may_begin.Goals as goal

pub returns : goal.returns
returns c = λ w h. no_news w h
