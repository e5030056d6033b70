-- The limits (docs/MANUAL.md, chapter 8), each defined once.
use Rattle.std.specs.Prelude.{ℕ}

-- (rule X1) processes are 1 to 64, nodes 1 to 32, operations 0 to 255
unfoldable pub processes : ℕ
processes = 64

unfoldable pub nodes : ℕ
nodes = 32

unfoldable pub greatest_operation : ℕ
greatest_operation = 255

-- (rules R3, X2) rights are 0 to 7: hold 1, transfer 2 and register 4, added up
unfoldable pub all_rights : ℕ
all_rights = 7

-- (rules R5, X9) one counter, from 1 to 4,294,967,294, numbers rows and requests alike; a number is given once
unfoldable pub greatest_number : ℕ
greatest_number = 4294967294

-- (rules X7, X8) at most 1,024 rows stand, and at most 128 requests are open
unfoldable pub row_slots : ℕ
row_slots = 1024

unfoldable pub request_slots : ℕ
request_slots = 128

-- (rules R11, X6) no row is deeper than 12
unfoldable pub greatest_depth : ℕ
greatest_depth = 12

-- (rules L3, X5) a request lists at most four items
unfoldable pub most_items : ℕ
most_items = 4

-- (rules F7, X15) a comesall asks of at most 16 pairs
unfoldable pub most_pairs : ℕ
most_pairs = 16

-- (rules O2, X4) a node form has at most 16 entries
unfoldable pub most_entries : ℕ
most_entries = 16

-- (rules T1, X3) a line has at most 255 bytes before its line feed
unfoldable pub most_bytes : ℕ
most_bytes = 255
