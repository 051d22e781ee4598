-- The steps in which items are unpacked.
use Rattle.std.specs.Prelude.{Bool, true, false, List, ◌++◌, map}
use Rattle.std.specs.List.{filter}
use Rattle.nv_untar.specs.declared.item.Item.{Item as ItemValue}
use Rattle.nv_untar.specs.declared.item.ItemKind.{ItemKind}
use Rattle.nv_untar.specs.declared.item.ItemKind.TheVariants.{File, Link, Directory}
use Rattle.nv_unpack.specs.declared.step.Step.{Step}
use Rattle.nv_unpack.specs.declared.step.Step.TheVariants.{Make, SetAttributes}

-- it is a directory
abbrev pub is_directory_kind : ItemKind → Bool
is_directory_kind File = false
is_directory_kind Link = false
is_directory_kind Directory = true

-- the item is a directory
abbrev pub is_directory_item : ItemValue → Bool
is_directory_item item = is_directory_kind item.kind

-- Each item is made, in order. Behind all of them the directories get their attributes, in order too, so that no name that is
-- made in one changes its time afterwards.
abbrev pub steps_of : List ItemValue → List Step
steps_of items = map Make items ++ map SetAttributes (filter is_directory_item items)

-- the item of a step
abbrev pub item_in : Step → ItemValue
item_in (Make item) = item
item_in (SetAttributes item) = item
