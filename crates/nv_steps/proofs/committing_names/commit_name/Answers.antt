use Rattle.std.proofs.lemmas.Grind.{common_steps}
use Rattle.std.proofs.Common.{arith, ◌-◌, ◌∙◌, ◌∷◌, [], ap, drop, length, refl, take}
use Rattle.nv_region.proofs.Fuses.{keeps_within}
use Rattle.nv_entry.specs.declared.entry.Entry.{Entry}
use Rattle.nv_entry.specs.Spelling.{entry_length}
use Rattle.nv_logpage.specs.Append.{end_of}
use Rattle.nv_mounted.proofs.BytesKept.{mixed_size}
use Rattle.nv_steps.proofs.MadeNamed.{all_others, begins, commits, left_named, makes_named, makes_within, named_told, place_is}
use Rattle.nv_steps.proofs.NumbersOwed.{ends_behind, others_fit}
use Rattle.nv_steps.proofs.committing_names.commit_name.Goals as goal

pub name_entry-requires : goal.name_entry-requires
name_entry-requires g c = record { some = c.requires.row.is_name.some; fits = c.requires.row.is_name.short }

pub make_inode-requires-clause-empty : goal.make_inode-requires-clause-empty
make_inode-requires-clause-empty g c = let k = c.requires.can.4 in k.can.journal_empty

pub make_inode-requires-clause-inode : goal.make_inode-requires-clause-inode
make_inode-requires-clause-inode g c =
    let k = c.requires.can.4 in
    begins k.stands k.can k.taken c.args.new.now.name.now c.args.new.now.time k.count k.same c.args.new.now.mode k.slot_is refl c.first_attributes.ensures

pub make_inode-requires-clause-directory : goal.make_inode-requires-clause-directory
make_inode-requires-clause-directory g c =
    let k = c.requires.can.4 in
    commits k.stands k.can k.taken c.args.new.now.name.now c.args.new.now.time k.count k.same _ k.parent_is refl (ap (λ (e : Entry). e ∷ []) c.name_entry.ensures) (all_others c.args.blocks.now (length c.args.blocks.now) refl)

pub returns-in_default-clause-made : goal.returns-in_default-clause-made
returns-in_default-clause-made g c l free after row k = tt

pub returns-in_default-clause-stopped : goal.returns-in_default-clause-stopped
returns-in_default-clause-stopped g c = refl

pub returns-in_default-clause-kept : goal.returns-in_default-clause-kept
returns-in_default-clause-kept g c free after lists =
    record {
      keeps = record {
        stopped = grind (arith, common_steps);
        lists = lists;
        length = mixed_size c.make_inode.ensures.kept.wrote.mixed;
        keeps_fuse = (let k = c.requires.can.4 in
            keeps_within (makes_within k.stands k.can k.taken c.args.new.now.name.now c.args.new.now.time k.count k.same _ c.args.slot c.args.parent c.args.directory.now.tail _ refl k.slot_is k.parent_is refl (all_others c.args.blocks.now (length c.args.blocks.now) refl)) c.make_inode.ensures.kept.keeps_fuse);
      };
      settled = tt;
    }

pub returns-in_default-clause-inode : goal.returns-in_default-clause-inode
returns-in_default-clause-inode g c = refl

pub returns-in_default-clause-wrote : goal.returns-in_default-clause-wrote
returns-in_default-clause-wrote g c l free after row k held h shows out =
    (named_told k.stands k.can k.taken c.args.new.now.name.now c.args.new.now.time k.count k.same _ k.parent_is refl (ap (λ (e : Entry). e ∷ []) c.name_entry.ensures) (all_others c.args.blocks.now (length c.args.blocks.now) refl) c.args.new.now.kind c.args.new.now.mode _ k.slot_is refl refl refl c.first_attributes.ensures
    (g.P.Pmem.region c.make_inode.new.memory) shows out (c.make_inode.ensures.in_order l held c.args.new.now.inode c.args.directory.now.inode h) c.make_inode.ensures.kept.wrote.mixed).1

pub returns-in_default-clause-in_order : goal.returns-in_default-clause-in_order
returns-in_default-clause-in_order g c l free after row k held h shows out =
    (named_told k.stands k.can k.taken c.args.new.now.name.now c.args.new.now.time k.count k.same _ k.parent_is refl (ap (λ (e : Entry). e ∷ []) c.name_entry.ensures) (all_others c.args.blocks.now (length c.args.blocks.now) refl) c.args.new.now.kind c.args.new.now.mode _ k.slot_is refl refl refl c.first_attributes.ensures
    (g.P.Pmem.region c.make_inode.new.memory) shows out (c.make_inode.ensures.in_order l held c.args.new.now.inode c.args.directory.now.inode h) c.make_inode.ensures.kept.wrote.mixed).0

pub returns-in_default-clause-any_stop : goal.returns-in_default-clause-any_stop
returns-in_default-clause-any_stop g c l free after row k held h shows out absent settled =
    left_named k.stands k.can k.taken c.args.new.now.name.now c.args.new.now.time k.count k.same _ k.parent_is refl (ap (λ (e : Entry). e ∷ []) c.name_entry.ensures) (all_others c.args.blocks.now (length c.args.blocks.now) refl) c.args.new.now.kind c.args.new.now.mode _ k.slot_is refl refl refl c.first_attributes.ensures
    shows out k.once absent _ _ _ c.make_inode.ensures.kept.wrote settled (λ can. (c.make_inode.ensures.moments l held c.args.new.now.inode c.args.directory.now.inode h can).any_stop)

pub overflow_sub-end : goal.overflow_sub-end
overflow_sub-end g c = ends_behind c.in-Ok.end c.length.result (take (length c.args.blocks.now - 1) (drop 1 c.args.blocks.now)) c.args.directory.now.tail c.name_entry.result c.in-Ok.ensures.ends.1 c.length.ensures.value

pub settle_name-requires-clause-pages : goal.settle_name-requires-clause-pages
settle_name-requires-clause-pages g c = others_fit _ _ c.args.blocks.now _ (all_others c.args.blocks.now (length c.args.blocks.now) refl) c.requires.row.pages

pub settle_name-requires-clause-names : goal.settle_name-requires-clause-names
settle_name-requires-clause-names g c = c.requires.row.names

pub settle_name-requires-clause-name : goal.settle_name-requires-clause-name
settle_name-requires-clause-name g c = c.requires.row.is_name

pub returns-clause-made : goal.returns-clause-made
returns-clause-made g c l free after row k =
    let blocks = all_others c.args.blocks.now (length c.args.blocks.now) refl in
    let ends = c.in-Ok.ensures.ends in
    makes_named k.stands k.can k.taken c.args.new.now.name.now c.args.new.now.time k.count k.same _ k.parent_is refl (ap (λ (e : Entry). e ∷ []) c.name_entry.ensures) blocks c.args.new.now.kind c.args.new.now.mode _ k.slot_is refl refl refl c.first_attributes.ensures
    c.in-Ok.end c.in-Ok.tail _ _ _ blocks ends.0 ends.1 c.settle_name.ensures.row
    (place_is c.in-Ok.end c.length.result (drop 1 c.args.blocks.now) row.tail c.args.new.now.inode c.args.new.now.name.now c.args.new.now.time
    (ends.1 ∙ (λ t. end_of (blocks t) 0 (k.same.tail t) (c.name_entry.ensures t ∷ []))) (c.length.ensures.value ∙ ap entry_length c.name_entry.ensures))
    k.once c.settle_name.ensures.once refl c.new_row.ensures
    (λ held h can. c.in-Ok.ensures.shows l held c.args.new.now.inode c.args.directory.now.inode h can) c.make_inode.ensures.kept.wrote.mixed

pub returns-clause-stopped : goal.returns-clause-stopped
returns-clause-stopped g c = tt

pub returns-clause-kept : goal.returns-clause-kept
returns-clause-kept g c free after lists =
    record {
      keeps = record {
        stopped = tt;
        lists = lists;
        length = mixed_size c.make_inode.ensures.kept.wrote.mixed;
        keeps_fuse = (let k = c.requires.can.4 in
            keeps_within (makes_within k.stands k.can k.taken c.args.new.now.name.now c.args.new.now.time k.count k.same _ c.args.slot c.args.parent c.args.directory.now.tail _ refl k.slot_is k.parent_is refl (all_others c.args.blocks.now (length c.args.blocks.now) refl)) c.make_inode.ensures.kept.keeps_fuse);
      };
      settled = c.in-Ok.ensures.kept.settled;
    }

pub returns-clause-inode : goal.returns-clause-inode
returns-clause-inode g c = c.settle_name.ensures.row.inode

pub returns-clause-wrote : goal.returns-clause-wrote
returns-clause-wrote g c l free after row k held h shows out =
    (named_told k.stands k.can k.taken c.args.new.now.name.now c.args.new.now.time k.count k.same _ k.parent_is refl (ap (λ (e : Entry). e ∷ []) c.name_entry.ensures) (all_others c.args.blocks.now (length c.args.blocks.now) refl) c.args.new.now.kind c.args.new.now.mode _ k.slot_is refl refl refl c.first_attributes.ensures
    (g.P.Pmem.region c.make_inode.new.memory) shows out (c.make_inode.ensures.in_order l held c.args.new.now.inode c.args.directory.now.inode h) c.make_inode.ensures.kept.wrote.mixed).1

pub returns-clause-in_order : goal.returns-clause-in_order
returns-clause-in_order g c l free after row k held h shows out =
    (named_told k.stands k.can k.taken c.args.new.now.name.now c.args.new.now.time k.count k.same _ k.parent_is refl (ap (λ (e : Entry). e ∷ []) c.name_entry.ensures) (all_others c.args.blocks.now (length c.args.blocks.now) refl) c.args.new.now.kind c.args.new.now.mode _ k.slot_is refl refl refl c.first_attributes.ensures
    (g.P.Pmem.region c.make_inode.new.memory) shows out (c.make_inode.ensures.in_order l held c.args.new.now.inode c.args.directory.now.inode h) c.make_inode.ensures.kept.wrote.mixed).0

pub returns-clause-any_stop : goal.returns-clause-any_stop
returns-clause-any_stop g c l free after row k held h shows out absent settled =
    left_named k.stands k.can k.taken c.args.new.now.name.now c.args.new.now.time k.count k.same _ k.parent_is refl (ap (λ (e : Entry). e ∷ []) c.name_entry.ensures) (all_others c.args.blocks.now (length c.args.blocks.now) refl) c.args.new.now.kind c.args.new.now.mode _ k.slot_is refl refl refl c.first_attributes.ensures
    shows out k.once absent _ _ _ c.make_inode.ensures.kept.wrote settled (λ can. (c.make_inode.ensures.moments l held c.args.new.now.inode c.args.directory.now.inode h can).any_stop)
