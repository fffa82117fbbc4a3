-- `feed_records::records::take_body` meets its contract: a function for each kind.
use Rattle.feed_rules.specs.Record.{body_effect}
use Rattle.feed_state.proofs.StateLaws.{quiet_takes}
use Rattle.feed_records.proofs.records.take_body.Goals as goal

pub returns-in-Parameters : goal.returns-in-Parameters
unfolding body_effect
returns-in-Parameters c = rw c.in-Parameters.is (quiet_takes _ _ (c.take_parameters.ensures.leaves _))

pub returns-in-List : goal.returns-in-List
unfolding body_effect
returns-in-List c = rw c.in-List.is (quiet_takes _ _ (c.take_list.ensures.leaves _))

pub returns-in-NoList : goal.returns-in-NoList
unfolding body_effect
returns-in-NoList c = rw c.in-NoList.is (quiet_takes _ _ (c.take_no_list.ensures.leaves _))

pub returns-in-Levels : goal.returns-in-Levels
unfolding body_effect
returns-in-Levels c = rw c.in-Levels.is c.take_levels.ensures

pub returns-in-Edit : goal.returns-in-Edit
unfolding body_effect
returns-in-Edit c = rw c.in-Edit.is (quiet_takes _ _ c.take_edit.ensures)

pub returns-in-Reading : goal.returns-in-Reading
unfolding body_effect
returns-in-Reading c = rw c.in-Reading.is (c.take_reading.ensures.leaves _ _ _)
