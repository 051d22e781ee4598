use Rattle.nv_line.specs.Request.{Format, Time, Poke, Cut, Recover, Tree, Free, Faults, Report, Peek, ListNames, Stat, Read, Create, MakeDirectory, Write, SetSize, SetAttributes, Clean, Upgrade, Link, Unlink, RemoveDirectory, Rename}
use Rattle.nv_line.specs.Reading.{request_as}
use Rattle.nv_line.specs.Table.{row_of}
use Rattle.nv_line.proofs.table.command_of.Goals as goal

pub returns-in-Some : goal.returns-in-Some
unfolding request_as row_of
returns-in-Some c = rw c.in-Format.is (c.in-Some.ensures Format)

pub returns-in-None : goal.returns-in-None
unfolding request_as row_of
returns-in-None c = rw c.in-Format.is (c.in-None.ensures Format)

pub returns-in-Some-one_number : goal.returns-in-Some-one_number
unfolding request_as row_of
returns-in-Some-one_number c = rw c.in-Time.is (c.in-Some-one_number.ensures Time)

pub returns-in-None-one_number : goal.returns-in-None-one_number
unfolding request_as row_of
returns-in-None-one_number c = rw c.in-Time.is (c.in-None-one_number.ensures Time)

pub returns-in-Some-two_numbers : goal.returns-in-Some-two_numbers
unfolding request_as row_of
returns-in-Some-two_numbers c = rw c.in-Poke.is (c.in-Some-two_numbers.ensures Poke)

pub returns-in-None-two_numbers : goal.returns-in-None-two_numbers
unfolding request_as row_of
returns-in-None-two_numbers c = rw c.in-Poke.is (c.in-None-two_numbers.ensures Poke)

pub returns-in-Some-one_number-2 : goal.returns-in-Some-one_number-2
unfolding request_as row_of
returns-in-Some-one_number-2 c = rw c.in-Cut.is (c.in-Some-one_number-2.ensures Cut)

pub returns-in-None-one_number-2 : goal.returns-in-None-one_number-2
unfolding request_as row_of
returns-in-None-one_number-2 c = rw c.in-Cut.is (c.in-None-one_number-2.ensures Cut)

pub returns-in-Some-one_number-3 : goal.returns-in-Some-one_number-3
unfolding request_as row_of
returns-in-Some-one_number-3 c = rw c.in-Recover.is (c.in-Some-one_number-3.ensures Recover)

pub returns-in-None-one_number-3 : goal.returns-in-None-one_number-3
unfolding request_as row_of
returns-in-None-one_number-3 c = rw c.in-Recover.is (c.in-None-one_number-3.ensures Recover)

pub returns-in-Some-no_words : goal.returns-in-Some-no_words
unfolding request_as row_of
returns-in-Some-no_words c = rw c.in-Tree.is (c.in-Some-no_words.ensures Tree)

pub returns-in-None-no_words : goal.returns-in-None-no_words
unfolding request_as row_of
returns-in-None-no_words c = rw c.in-Tree.is (c.in-None-no_words.ensures Tree)

pub returns-in-Some-no_words-2 : goal.returns-in-Some-no_words-2
unfolding request_as row_of
returns-in-Some-no_words-2 c = rw c.in-Free.is (c.in-Some-no_words-2.ensures Free)

pub returns-in-None-no_words-2 : goal.returns-in-None-no_words-2
unfolding request_as row_of
returns-in-None-no_words-2 c = rw c.in-Free.is (c.in-None-no_words-2.ensures Free)

pub returns-in-Some-no_words-3 : goal.returns-in-Some-no_words-3
unfolding request_as row_of
returns-in-Some-no_words-3 c = rw c.in-Faults.is (c.in-Some-no_words-3.ensures Faults)

pub returns-in-None-no_words-3 : goal.returns-in-None-no_words-3
unfolding request_as row_of
returns-in-None-no_words-3 c = rw c.in-Faults.is (c.in-None-no_words-3.ensures Faults)

pub returns-in-Some-no_words-4 : goal.returns-in-Some-no_words-4
unfolding request_as row_of
returns-in-Some-no_words-4 c = rw c.in-Report.is (c.in-Some-no_words-4.ensures Report)

pub returns-in-None-no_words-4 : goal.returns-in-None-no_words-4
unfolding request_as row_of
returns-in-None-no_words-4 c = rw c.in-Report.is (c.in-None-no_words-4.ensures Report)

pub returns-in-Some-one_number-4 : goal.returns-in-Some-one_number-4
unfolding request_as row_of
returns-in-Some-one_number-4 c = rw c.in-Peek.is (c.in-Some-one_number-4.ensures Peek)

pub returns-in-None-one_number-4 : goal.returns-in-None-one_number-4
unfolding request_as row_of
returns-in-None-one_number-4 c = rw c.in-Peek.is (c.in-None-one_number-4.ensures Peek)

pub returns-in-Some-one_path : goal.returns-in-Some-one_path
unfolding request_as row_of
returns-in-Some-one_path c = rw c.in-ListNames.is (c.in-Some-one_path.ensures ListNames)

pub returns-in-None-one_path : goal.returns-in-None-one_path
unfolding request_as row_of
returns-in-None-one_path c = rw c.in-ListNames.is (c.in-None-one_path.ensures ListNames)

pub returns-in-Some-one_path-2 : goal.returns-in-Some-one_path-2
unfolding request_as row_of
returns-in-Some-one_path-2 c = rw c.in-Stat.is (c.in-Some-one_path-2.ensures Stat)

pub returns-in-None-one_path-2 : goal.returns-in-None-one_path-2
unfolding request_as row_of
returns-in-None-one_path-2 c = rw c.in-Stat.is (c.in-None-one_path-2.ensures Stat)

pub returns-in-Some-path_and_two_numbers : goal.returns-in-Some-path_and_two_numbers
unfolding request_as row_of
returns-in-Some-path_and_two_numbers c = rw c.in-Read.is (c.in-Some-path_and_two_numbers.ensures Read)

pub returns-in-None-path_and_two_numbers : goal.returns-in-None-path_and_two_numbers
unfolding request_as row_of
returns-in-None-path_and_two_numbers c = rw c.in-Read.is (c.in-None-path_and_two_numbers.ensures Read)

pub returns-in-Some-cpu_and_path : goal.returns-in-Some-cpu_and_path
unfolding request_as row_of
returns-in-Some-cpu_and_path c = rw c.in-Create.is (c.in-Some-cpu_and_path.ensures Create)

pub returns-in-None-cpu_and_path : goal.returns-in-None-cpu_and_path
unfolding request_as row_of
returns-in-None-cpu_and_path c = rw c.in-Create.is (c.in-None-cpu_and_path.ensures Create)

pub returns-in-Some-cpu_and_path-2 : goal.returns-in-Some-cpu_and_path-2
unfolding request_as row_of
returns-in-Some-cpu_and_path-2 c = rw c.in-MakeDirectory.is (c.in-Some-cpu_and_path-2.ensures MakeDirectory)

pub returns-in-None-cpu_and_path-2 : goal.returns-in-None-cpu_and_path-2
unfolding request_as row_of
returns-in-None-cpu_and_path-2 c = rw c.in-MakeDirectory.is (c.in-None-cpu_and_path-2.ensures MakeDirectory)

pub returns-in-Some-write_words : goal.returns-in-Some-write_words
unfolding request_as row_of
returns-in-Some-write_words c = rw c.in-Write.is (c.in-Some-write_words.ensures Write)

pub returns-in-None-write_words : goal.returns-in-None-write_words
unfolding request_as row_of
returns-in-None-write_words c = rw c.in-Write.is (c.in-None-write_words.ensures Write)

pub returns-in-Some-cpu_path_and_number : goal.returns-in-Some-cpu_path_and_number
unfolding request_as row_of
returns-in-Some-cpu_path_and_number c = rw c.in-SetSize.is (c.in-Some-cpu_path_and_number.ensures SetSize)

pub returns-in-None-cpu_path_and_number : goal.returns-in-None-cpu_path_and_number
unfolding request_as row_of
returns-in-None-cpu_path_and_number c = rw c.in-SetSize.is (c.in-None-cpu_path_and_number.ensures SetSize)

pub returns-in-Some-attribute_words : goal.returns-in-Some-attribute_words
unfolding request_as row_of
returns-in-Some-attribute_words c = rw c.in-SetAttributes.is (c.in-Some-attribute_words.ensures SetAttributes)

pub returns-in-None-attribute_words : goal.returns-in-None-attribute_words
unfolding request_as row_of
returns-in-None-attribute_words c = rw c.in-SetAttributes.is (c.in-None-attribute_words.ensures SetAttributes)

pub returns-in-Some-one_path-3 : goal.returns-in-Some-one_path-3
unfolding request_as row_of
returns-in-Some-one_path-3 c = rw c.in-Clean.is (c.in-Some-one_path-3.ensures Clean)

pub returns-in-None-one_path-3 : goal.returns-in-None-one_path-3
unfolding request_as row_of
returns-in-None-one_path-3 c = rw c.in-Clean.is (c.in-None-one_path-3.ensures Clean)

pub returns-in-Some-no_words-5 : goal.returns-in-Some-no_words-5
unfolding request_as row_of
returns-in-Some-no_words-5 c = rw c.in-Upgrade.is (c.in-Some-no_words-5.ensures Upgrade)

pub returns-in-None-no_words-5 : goal.returns-in-None-no_words-5
unfolding request_as row_of
returns-in-None-no_words-5 c = rw c.in-Upgrade.is (c.in-None-no_words-5.ensures Upgrade)

pub returns-in-Some-cpu_and_two_paths : goal.returns-in-Some-cpu_and_two_paths
unfolding request_as row_of
returns-in-Some-cpu_and_two_paths c = rw c.in-Link.is (c.in-Some-cpu_and_two_paths.ensures Link)

pub returns-in-None-cpu_and_two_paths : goal.returns-in-None-cpu_and_two_paths
unfolding request_as row_of
returns-in-None-cpu_and_two_paths c = rw c.in-Link.is (c.in-None-cpu_and_two_paths.ensures Link)

pub returns-in-Some-cpu_and_path-3 : goal.returns-in-Some-cpu_and_path-3
unfolding request_as row_of
returns-in-Some-cpu_and_path-3 c = rw c.in-Unlink.is (c.in-Some-cpu_and_path-3.ensures Unlink)

pub returns-in-None-cpu_and_path-3 : goal.returns-in-None-cpu_and_path-3
unfolding request_as row_of
returns-in-None-cpu_and_path-3 c = rw c.in-Unlink.is (c.in-None-cpu_and_path-3.ensures Unlink)

pub returns-in-Some-cpu_and_path-4 : goal.returns-in-Some-cpu_and_path-4
unfolding request_as row_of
returns-in-Some-cpu_and_path-4 c = rw c.in-RemoveDirectory.is (c.in-Some-cpu_and_path-4.ensures RemoveDirectory)

pub returns-in-None-cpu_and_path-4 : goal.returns-in-None-cpu_and_path-4
unfolding request_as row_of
returns-in-None-cpu_and_path-4 c = rw c.in-RemoveDirectory.is (c.in-None-cpu_and_path-4.ensures RemoveDirectory)

pub returns-in-Some-cpu_and_two_paths-2 : goal.returns-in-Some-cpu_and_two_paths-2
unfolding request_as row_of
returns-in-Some-cpu_and_two_paths-2 c = rw c.in-Rename.is (c.in-Some-cpu_and_two_paths-2.ensures Rename)

pub returns-in-None-cpu_and_two_paths-2 : goal.returns-in-None-cpu_and_two_paths-2
unfolding request_as row_of
returns-in-None-cpu_and_two_paths-2 c = rw c.in-Rename.is (c.in-None-cpu_and_two_paths-2.ensures Rename)
