use Rattle.ld_bounds.specs.Sequencers.{IsSequencer}
use Rattle.ld_bounds.specs.Readers.{IsReader, IsNamedReader}
use Rattle.ld_bounds.proofs.Alls.{all-find_named}
use Rattle.ld_bounds.proofs.Places.{sequencer_found, reader_found, reader_named}
use Rattle.ld_bounds.proofs.Steps.{node_is_sound}
use Rattle.ld_bounds.proofs.laws.actors_are_sound.Goals as goal

pub returns-clause-node : goal.returns-clause-node
returns-clause-node c = λ k s n h. node_is_sound k s h n

pub returns-clause-sequencer : goal.returns-clause-sequencer
returns-clause-sequencer c = λ k s name q h f. all-find_named (IsSequencer k s.register) name s.sequencers q h.sequencers f

pub returns-clause-reader : goal.returns-clause-reader
returns-clause-reader c = λ k s name d h f. all-find_named (IsReader k) name s.readers d h.readers f

pub returns-clause-sequencer_of : goal.returns-clause-sequencer_of
returns-clause-sequencer_of c = λ k s l e q h f. sequencer_found (IsSequencer k s.register) l e s.sequencers q h.sequencers f

pub returns-clause-reader_of : goal.returns-clause-reader_of
returns-clause-reader_of c = λ k s r d h f. (reader_found (IsNamedReader k) r s.readers d h.readers f, reader_named r s.readers d h.reader_names f)
