use Rattle.std.proofs.Common.{◌≡◌, ◌∙◌, ◌+◌, List, Some, slice_get, sym, ap, subst}
use Rattle.std.proofs.lemmas.Option.{slice_get-get_or}
use Rattle.std.proofs.lemmas.Result.{on_ok_weaker}
use Rattle.nv_host.specs.declared.walking.HostEntry.{HostEntry}
use Rattle.nv_host.specs.Walking.{IsWalked, enters, passes}
use Rattle.nv_host.proofs.walking.pass.Goals as goal

pub returns-in-Directory : goal.returns-in-Directory
returns-in-Directory g c =
    let entries = c.args.entries.now.items in
    let folder = c.index.result.now in
    let there : slice_get entries c.args.at ≡ Some folder = slice_get-get_or entries c.args.at folder c.requires ∙ ap Some (sym c.index.ensures) in
    on_ok_weaker c.push_below.result (λ added root walked.
    let more = added folder there in
    subst (λ (items : List HostEntry). IsWalked root items (c.args.at + 1)) (sym more.1) (enters entries more.0 c.args.at folder there c.in-Directory.is walked more.2))
    c.push_below.ensures

pub returns-in-File : goal.returns-in-File
returns-in-File g c root walked =
    let entries = c.args.entries.now.items in
    let file = c.index.result.now in
    passes entries c.args.at file (slice_get-get_or entries c.args.at file c.requires ∙ ap Some (sym c.index.ensures)) c.in-File.is walked
