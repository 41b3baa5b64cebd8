use Rattle.script_play.proofs.PlayingLemmas.{formatted, play, recovered}
use Rattle.script_play.proofs.laws.play_law.Goals as goal

pub returns-clause-formatted : goal.returns-clause-formatted
returns-clause-formatted c = formatted

pub returns-clause-recovered : goal.returns-clause-recovered
returns-clause-recovered c = recovered

pub returns-clause-played : goal.returns-clause-played
returns-clause-played c = play
