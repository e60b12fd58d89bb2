-- Where a timetable ends that other bytes may follow: an order ends where its counts say, "and a timetable after its last step" (document
-- 02, "Season report").
--
--     whole_timetable_length s    the length of the timetable that s begins with, or 0 where s ends before the timetable does
-- Assumes nothing.
use Rattle.std.specs.Prelude.{ℕ, List}
use Rattle.recording.specs.Front.{whole_length}
use Rattle.timetable.specs.Timetable.{timetable_length}

-- s ends before the timetable does where it has fewer than 3 bytes, or a step runs past its end
unfoldable pub whole_timetable_length : List ℕ → ℕ
whole_timetable_length s = whole_length (timetable_length s) s
