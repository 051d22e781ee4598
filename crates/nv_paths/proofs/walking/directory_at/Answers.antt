use Rattle.std.proofs.Common.{◌∙◌, ap, sym, option_copied}
use Rattle.std.specs.Result.{result_ok}
use Rattle.nv_paths.proofs.Spots.{directory_told, file_told}
use Rattle.nv_paths.proofs.walking.directory_at.Goals as goal

pub returns-in-Directory-clause-row : goal.returns-in-Directory-clause-row
returns-in-Directory-clause-row c = sym c.get.ensures ∙ ap option_copied (c.ok_or.ensures.ok_part ∙ ap result_ok c.in_ok-row.was)

pub returns-in-Directory-clause-reply : goal.returns-in-Directory-clause-reply
returns-in-Directory-clause-reply c region = directory_told region c.args.rows.now.items c.args.inode c.in_ok-row.row.now (returns-in-Directory-clause-row c) c.in-Directory.is

pub returns-in-File-clause-reply : goal.returns-in-File-clause-reply
returns-in-File-clause-reply c region = file_told region c.args.rows.now.items c.args.inode c.in_ok-row.row.now (sym c.get.ensures ∙ ap option_copied (c.ok_or.ensures.ok_part ∙ ap result_ok c.in_ok-row.was)) c.in-File.is
