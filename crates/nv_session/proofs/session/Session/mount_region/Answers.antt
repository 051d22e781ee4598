use Rattle.std.proofs.Common.{◌∙◌, ap, subst, sym}
use Rattle.nv_region.specs.RegionState.{RegionState}
use Rattle.nv_region.specs.declared.memory.Fuse.TheVariants as fuses
use Rattle.nv_super.specs.declared.superblock.Super.{Super}
use Rattle.nv_report.specs.Last.{how_it_went}
use Rattle.nv_session.specs.Sessions.{IsSettled, with_fuse}
use Rattle.nv_session.specs.declared.session.Session.{Session}
use Rattle.nv_session.proofs.session.Session.mount_region.Goals as goal

pub returns : goal.returns
returns c =
    let opens = c.open.ensures in
    let puts = c.put_mount.ensures in
    let found = c.args.recovered in (
      c.in_ok-text.ensures,
      record {
        mount = with_fuse fuses.Off c.open.result;
        store = ap (λ (s : Session). s.store) puts;
        region = ap (λ (m : RegionState). m.region) opens.memory;
        settled = subst (λ (m : RegionState). IsSettled m) (sym opens.memory) c.requires.settled;
        told = rw (opens.layout, opens.rows, opens.free, opens.faults) (ap (λ (s : Super). record {
          sup = s;
          tables = found.tables.layout.chains;
          rows = found.rows.items;
          free = found.free.pools;
          doubled = found.doubled.items;
          faults = found.faults.items;
        }) c.requires.mounts.4);
        runs = opens.stopped;
        time = ap (λ (s : Session). s.time) puts;
        last = ap (λ (s : Session). s.last) puts ∙ c.how_it_went-self.ensures ∙ ap how_it_went c.deref.ensures.value;
        stop = ap (λ (s : Session). s.stop) puts;
      },
    )
