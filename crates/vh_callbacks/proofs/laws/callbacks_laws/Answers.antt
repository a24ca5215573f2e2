use Rattle.vh_callbacks.proofs.LawsLemmas.{sound_opening, sound_registered, sound_removed, sound_started, sound_ended, sound_changed, next_is_new, tells_registered, keeps_registered, tells_removed, keeps_removed, holds_running, counts_started, counts_ended, keeps_known, gives_last_back, forgets_last, matching_is_set, matches_is_some}
use Rattle.vh_callbacks.proofs.laws.callbacks_laws.Goals as goal

pub returns-clause-opens : goal.returns-clause-opens
returns-clause-opens g c = sound_opening _

pub returns-clause-registers : goal.returns-clause-registers
returns-clause-registers g c = sound_registered

pub returns-clause-removes : goal.returns-clause-removes
returns-clause-removes g c = sound_removed

pub returns-clause-starts : goal.returns-clause-starts
returns-clause-starts g c = sound_started

pub returns-clause-ends : goal.returns-clause-ends
returns-clause-ends g c = sound_ended

pub returns-clause-changes : goal.returns-clause-changes
returns-clause-changes g c = sound_changed

pub returns-clause-next_is_new : goal.returns-clause-next_is_new
returns-clause-next_is_new g c = next_is_new

pub returns-clause-tells_registered : goal.returns-clause-tells_registered
returns-clause-tells_registered g c = tells_registered

pub returns-clause-keeps_registered : goal.returns-clause-keeps_registered
returns-clause-keeps_registered g c = keeps_registered

pub returns-clause-tells_removed : goal.returns-clause-tells_removed
returns-clause-tells_removed g c = tells_removed

pub returns-clause-keeps_removed : goal.returns-clause-keeps_removed
returns-clause-keeps_removed g c = keeps_removed

pub returns-clause-holds_running : goal.returns-clause-holds_running
returns-clause-holds_running g c = holds_running

pub returns-clause-counts_started : goal.returns-clause-counts_started
returns-clause-counts_started g c = counts_started

pub returns-clause-counts_ended : goal.returns-clause-counts_ended
returns-clause-counts_ended g c = counts_ended

pub returns-clause-keeps_known : goal.returns-clause-keeps_known
returns-clause-keeps_known g c = keeps_known

pub returns-clause-gives_last_back : goal.returns-clause-gives_last_back
returns-clause-gives_last_back g c = gives_last_back

pub returns-clause-forgets_last : goal.returns-clause-forgets_last
returns-clause-forgets_last g c = forgets_last

pub returns-clause-matching : goal.returns-clause-matching
returns-clause-matching g c = matching_is_set

pub returns-clause-matches : goal.returns-clause-matches
returns-clause-matches g c = matches_is_some
