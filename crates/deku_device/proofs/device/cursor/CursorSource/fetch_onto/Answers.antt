use Rattle.std.proofs.Common.{rules}
use Rattle.deku_device.proofs.device.cursor.CursorSource.fetch_onto.Goals as goal

pub returns-then-not-append_at-clause-bytes : goal.returns-then-not-append_at-clause-bytes
returns-then-not-append_at-clause-bytes g c = search rules

pub returns-then-not-append_at-clause-held : goal.returns-then-not-append_at-clause-held
returns-then-not-append_at-clause-held g c = search rules

pub returns-then-not-append_at-clause-count : goal.returns-then-not-append_at-clause-count
returns-then-not-append_at-clause-count g c = search rules

pub returns-then-not-append_at-clause-short : goal.returns-then-not-append_at-clause-short
returns-then-not-append_at-clause-short g c = search rules

pub returns-then-not-append_at-clause-place : goal.returns-then-not-append_at-clause-place
returns-then-not-append_at-clause-place g c = search rules

pub returns-then-not-append_at-clause-inner : goal.returns-then-not-append_at-clause-inner
returns-then-not-append_at-clause-inner g c = search rules

pub returns-then-not-append_at-clause-kept : goal.returns-then-not-append_at-clause-kept
returns-then-not-append_at-clause-kept g c = search rules

pub returns-then-not-append_at-clause-stays : goal.returns-then-not-append_at-clause-stays
returns-then-not-append_at-clause-stays g c = search rules

pub returns-then-not-append_at-clause-same : goal.returns-then-not-append_at-clause-same
returns-then-not-append_at-clause-same g c = search rules

pub returns-clause-bytes : goal.returns-clause-bytes
returns-clause-bytes g c = search rules

pub returns-clause-held : goal.returns-clause-held
returns-clause-held g c = search rules

pub returns-clause-count : goal.returns-clause-count
returns-clause-count g c = search rules

pub returns-clause-short : goal.returns-clause-short
returns-clause-short g c = search rules

pub returns-clause-place : goal.returns-clause-place
returns-clause-place g c = search rules

pub returns-clause-inner : goal.returns-clause-inner
returns-clause-inner g c = search rules

pub returns-clause-stays : goal.returns-clause-stays
returns-clause-stays g c = search rules

pub returns-clause-same : goal.returns-clause-same
returns-clause-same g c = search rules
