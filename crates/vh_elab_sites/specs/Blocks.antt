-- Generate blocks: what they are called, and what constructs come to. (IEEE 1364-2005, 12.4)
use Rattle.std.specs.Prelude.{ℕ, List, ◌++◌, replicate, codes, Bool, true, false, ◌&&◌, Option, Some, None, ℤ}
use Rattle.std.specs.Fmt.{decimal}
use Rattle.vh_base.specs.declared.place.Place.{Place}
use Rattle.vh_ast.specs.declared.token.Id.{Id}
use Rattle.vh_ast.specs.Items.{ItemTree, item, ItemFormTree, plain_item, generate_word, endgenerate_word, for_item, if_item, GblockTree, one_item, item_block, Items, no_item, next_item}
use Rattle.vh_bind_scope.specs.LookUp.{block_name}

-- What a block is called: as it is written, or by the number of its construct in its scope, from 1,
-- with so many zeros before it. (12.4.3)
pub data BlockText : Type 0 where
  written : List ℕ → BlockText
  counted : ℕ → ℕ → BlockText

abbrev pub counted_bytes : ℕ → ℕ → List ℕ
counted_bytes zeros n = codes "genblk" ++ (replicate zeros 48 ++ decimal n)

abbrev pub text_bytes : BlockText → List ℕ
text_bytes (written name) = name
text_bytes (counted zeros n) = counted_bytes zeros n

-- That of a loop's has the value of its genvar behind it. (12.4.1)
pub record BlockName : Type 0 where
  pub word : BlockText
  pub index : Option ℤ

abbrev pub indexed_bytes : List ℕ → Option ℤ → List ℕ
indexed_bytes name None = name
indexed_bytes name (Some i) = block_name name i

abbrev pub name_bytes : BlockName → List ℕ
name_bytes b = indexed_bytes (text_bytes b.word) b.index

-- The value of a genvar, by the scope that declares it. (12.4.1)
pub record GenvarAt : Type 0 where
  pub scope : ℕ
  pub name : List ℕ
  pub value : ℤ

-- What a construct comes to, in the order in which blocks are made; those in a block come behind
-- it: no branch, the first or the one behind `else` with what its block is called; a loop with what
-- its blocks are called, then each block with the value of its genvar, and the end.
pub data Choice : Type 0 where
  neither : Choice
  holds : BlockText → Choice
  fails : BlockText → Choice
  loop : BlockText → Choice
  turn : ℤ → Choice
  end_of_loop : Choice

-- Where a block stands: at its name, or else at its first token.
abbrev pub name_place : Place → Option Id → Place
name_place place None = place
name_place place (Some id) = id.place

abbrev pub block_place : GblockTree → Place
block_place (one_item place all) = place
block_place (item_block place id all) = name_place place id

abbrev pub block_items : GblockTree → Items
block_items (one_item place all) = all
block_items (item_block place id all) = all

-- An `if` that stands without `begin` as a branch belongs to the same construct. (12.4.2)
abbrev pub is_if_form : ItemFormTree → Bool
is_if_form (plain_item form) = false
is_if_form generate_word = false
is_if_form endgenerate_word = false
is_if_form (for_item start test step body) = false
is_if_form (if_item test block other) = true

abbrev pub is_if : ItemTree → Bool
is_if (item place form) = is_if_form form

abbrev pub are_none : Items → Bool
are_none no_item = true
are_none (next_item i more) = false

abbrev pub is_lone : Items → Bool
is_lone no_item = false
is_lone (next_item i more) = is_if i && are_none more

abbrev pub is_lone_if : GblockTree → Bool
is_lone_if (one_item place all) = is_lone all
is_lone_if (item_block place id all) = false
