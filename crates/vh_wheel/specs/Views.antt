-- How the buckets hold a schedule (own). A bucket's number is 256 times its level and its byte; that of free nodes is 2048.
use Rattle.std.specs.Prelude.{ℕ, zero, suc, ◌≡◌, ◌≢◌, ◌<◌, ◌≤◌, ◌+◌, ◌/◌, ◌%◌, ◌^◌, ◌==◌, Bool, true, if◌then◌else◌, List, [], ◌∷◌, map, length, slice_index_or, Option, None, Some, is_some}
use Rattle.std.specs.Int.{bit_at}
use Rattle.std.specs.List.{slice_get}
use Rattle.vh_links.specs.Lists.{Lists, has, list_of}
use Rattle.vh_links.specs.Views.{IsApart}
use Rattle.vh_wheel.specs.declared.node.Node.{Node}
use Rattle.vh_wheel.specs.declared.occupied.Occupied.{Occupied}
use Rattle.vh_wheel.specs.Schedule.{Entry, Schedule, moves_of}

-- The bucket of a time, seen from the present time, with the levels above the lowest that there are
unfoldable pub bucket_from : ℕ → ℕ → ℕ → ℕ
bucket_from zero now t = t
bucket_from (suc k) now t = if now / 256 == t / 256 then t % 256 else 256 + bucket_from k (now / 256) (t / 256)

-- A node that there is not
abbrev pub nowhere : Node
nowhere = record { time = 0; payload = 0; bucket = 2048 }

abbrev pub node_at : List Node → ℕ → Node
node_at ns x = slice_index_or ns x nowhere

-- A node in another bucket
abbrev pub with_bucket : ℕ → Node → Node
with_bucket b n = record { time = n.time; payload = n.payload; bucket = b }

-- The bucket of a node
abbrev pub bucket_at : List Node → ℕ → ℕ
bucket_at ns x = (slice_index_or ns x nowhere).bucket

-- The lists have each node once, in that of its bucket
pub record Lies (s : Lists) (ns : List Node) : Type 0 where
  pub count : length s.lists ≡ 2049
  pub size : s.nodes ≡ length ns
  pub few : length ns ≤ 2147483648
  pub sound : (a x : ℕ) → has x (list_of a s) ≡ true → (x < length ns) × (bucket_at ns x ≡ a)
  pub whole : (x : ℕ) → x < length ns → has x (list_of (bucket_at ns x) s) ≡ true
  pub bound : (x : ℕ) → x < length ns → bucket_at ns x < 2049
  pub apart : (a : ℕ) → IsApart (list_of a s)

-- The bit of a bucket: 64 to a word
abbrev pub flag_at : Occupied → ℕ → ℕ
flag_at o b = bit_at (slice_index_or o.words (b / 64) 0) (b % 64)

abbrev pub flag_of : Bool → ℕ
flag_of has_nodes = if has_nodes then 1 else 0

-- The first bucket of the levels whose bit is set
pub record IsFirstFlag (o : Occupied) (b : ℕ) : Type 0 where
  pub low : b < 2048
  pub there : flag_at o b ≡ 1
  pub first : (c : ℕ) → c < b → flag_at o c ≡ 0

-- Has the list of a bucket nodes?
abbrev pub list_flag : ℕ → Lists → ℕ
list_flag b s = flag_of (is_some (slice_get (list_of b s) 0))

-- A bit is set exactly where the list of its bucket has nodes
abbrev pub AreFlagged : Occupied → Lists → Type 0
AreFlagged o s = (b : ℕ) → b < 2049 → flag_at o b ≡ list_flag b s

-- What the buckets keep
pub record IsKept (o : Occupied) (s : Lists) (ns : List Node) : Type 0 where
  pub lies : Lies s ns
  pub flags : AreFlagged o s

-- What is held under a node
abbrev pub entry_of : Node → Option Entry
entry_of n = if n.bucket == 2048 then None else Some (record { time = n.time; payload = n.payload })

abbrev pub entries_of : List Node → List (Option Entry)
entries_of ns = map entry_of ns

-- What contracts see
abbrev pub schedule_in : List Node → ℕ → Schedule
schedule_in ns now = record { entries = entries_of ns; present = now }

-- A held node is not before the present time, and in the bucket of its time
pub record HasPosition (now : ℕ) (n : Node) : Type 0 where
  pub later : now ≤ n.time
  pub fits : n.time < 2 ^ 64
  pub bucket : n.bucket ≡ bucket_from 7 now n.time

abbrev pub IsPlaced : ℕ → Node → Type 0
IsPlaced now n = n.bucket ≢ 2048 → HasPosition now n

abbrev pub ArePlaced : ℕ → List Node → Type 0
ArePlaced now ns = (x : ℕ) → x < length ns → IsPlaced now (node_at ns x)

-- No node stands before a bucket
abbrev pub AreFrom : ℕ → List Node → Type 0
AreFrom b ns = (x : ℕ) → x < length ns → b ≤ bucket_at ns x

-- No held node is before a time
abbrev pub AreLater : ℕ → List Node → Type 0
AreLater t ns = (x : ℕ) → x < length ns → bucket_at ns x ≢ 2048 → t ≤ (node_at ns x).time

-- A held node stands in the bucket that is moved, and has fewer moves left at a new present time; or it has its position
pub record IsMoving (t from : ℕ) (n : Node) : Type 0 where
  pub later : t ≤ n.time
  pub fits : n.time < 2 ^ 64
  pub falls : n.bucket ≡ from → moves_of t n.time < from / 256
  pub moved : n.bucket ≢ from → n.bucket ≡ bucket_from 7 t n.time

abbrev pub AreMoving : ℕ → ℕ → List Node → Type 0
AreMoving t from ns = (x : ℕ) → x < length ns → bucket_at ns x ≢ 2048 → IsMoving t from (node_at ns x)

-- The least time of a bucket's nodes
pub record IsLeast (b : ℕ) (ns : List Node) (t : ℕ) : Type 0 where
  pub some : (x : ℕ) × (x < length ns) × (bucket_at ns x ≡ b) × ((node_at ns x).time ≡ t)
  pub all : (x : ℕ) → x < length ns → bucket_at ns x ≡ b → t ≤ (node_at ns x).time

-- The moves that a node's bucket leaves to it
abbrev pub moves_at : Node → ℕ
moves_at n = if n.bucket == 2048 then 0 else n.bucket / 256

abbrev pub moves_of_all : List Node → ℕ
moves_of_all [] = 0
moves_of_all (n ∷ ns) = moves_at n + moves_of_all ns
