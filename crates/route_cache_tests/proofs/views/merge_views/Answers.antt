use Rattle.route_cache_tests.proofs.LentRuns.{all-can, front-can, front-stands, stands-front, stands-reload, stands-rest, whole-closes}
use Rattle.route_cache_tests.proofs.views.merge_views.Goals as goal

pub merge-front-requires : goal.merge-front-requires
merge-front-requires g c =
    front-can c.segment-first.result c.segment-reload.result c.segment-first.ensures.sound c.segment-reload.ensures.sound
    (stands-front c.args.route.now c.before-2.result c.segment-first.result c.requires c.before-2.ensures c.segment-first.ensures.stands)
    (stands-reload c.args.route.now c.between.result c.segment-reload.result c.requires c.between.ensures.view c.segment-reload.ensures.stands)

pub merge-all-requires : goal.merge-all-requires
merge-all-requires g c =
    all-can c.merge-front.result c.segment-second.result c.merge-front.ensures.sound c.segment-second.ensures.sound
    (front-stands c.segment-first.result c.segment-reload.result c.merge-front.result c.merge-front.ensures.joins
    (stands-front c.args.route.now c.before-2.result c.segment-first.result c.requires c.before-2.ensures c.segment-first.ensures.stands)
    (stands-reload c.args.route.now c.between.result c.segment-reload.result c.requires c.between.ensures.view c.segment-reload.ensures.stands))
    (stands-rest c.args.route.now c.after.result c.segment-second.result c.requires c.after.ensures c.segment-second.ensures.stands)

pub close-whole-requires : goal.close-whole-requires
close-whole-requires g c =
    whole-closes c.merge-front.result c.segment-second.result c.merge-all.result c.merge-all.ensures.sound c.merge-all.ensures.joins
    (front-stands c.segment-first.result c.segment-reload.result c.merge-front.result c.merge-front.ensures.joins
    (stands-front c.args.route.now c.before-2.result c.segment-first.result c.requires c.before-2.ensures c.segment-first.ensures.stands)
    (stands-reload c.args.route.now c.between.result c.segment-reload.result c.requires c.between.ensures.view c.segment-reload.ensures.stands))
    (stands-rest c.args.route.now c.after.result c.segment-second.result c.requires c.after.ensures c.segment-second.ensures.stands)
