-- Where an order ends that other bytes may follow: document 01, "Programs": "The order ends where its counts say".
--
--     order_length s          the length of the order that s begins with, by its counts alone
--     whole_order_length s     the same, or 0 where s ends before the order does
-- Assumes nothing.
use Rattle.std.specs.Prelude.{ℕ, List}
use Rattle.field.specs.Units.{record_length}
use Rattle.recording.specs.Front.{whole_length}
use Rattle.order.specs.Order.{unit_count}

-- "The length is 3 bytes plus 12 × (e + m) bits rounded up to bytes."
unfoldable pub order_length : List ℕ → ℕ
order_length s = record_length (unit_count s)

-- s ends before the order does where it has fewer bytes than the counts say, or than the 3 that hold them
unfoldable pub whole_order_length : List ℕ → ℕ
whole_order_length s = whole_length (order_length s) s
