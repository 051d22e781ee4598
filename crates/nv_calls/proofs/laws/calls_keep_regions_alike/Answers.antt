use Rattle.nv_calls.proofs.CallsAlike.{attributes_alike_too, creates_alike, links_alike, removes_alike, renames_alike, sizes_alike, unlinks_alike, writes_alike}
use Rattle.nv_calls.proofs.ReplaceAlike.{replaces_alike}
use Rattle.nv_calls.proofs.CleanAlike.{cleans_alike, cleans_answer}
use Rattle.nv_calls.proofs.laws.calls_keep_regions_alike.Goals as goal

pub returns-clause-names : goal.returns-clause-names
returns-clause-names c = record { create = creates_alike; link = links_alike; unlink = unlinks_alike; rmdir = removes_alike; rename = renames_alike; replace = replaces_alike }

pub returns-clause-inodes : goal.returns-clause-inodes
returns-clause-inodes c = record { write = writes_alike; set_size = sizes_alike; set_attr = attributes_alike_too }

pub returns-clause-clean : goal.returns-clause-clean
returns-clause-clean c = cleans_alike

pub returns-clause-cleaned : goal.returns-clause-cleaned
returns-clause-cleaned c = cleans_answer
